-- Worked examples of the definitions.
use Rattle.std.proofs.Common.{◌≡◌, [], ◌++◌, refl}
use Rattle.scheduler.specs.History.{messages_in}
use Rattle.scheduler.specs.declared.history.Appended.{Nothing, After'}
use Rattle.scheduler.specs.declared.core_memory.TheConstants.{WAITING, IN_FLIGHT, RAN, LOGGED, CHAINS}

none_appended : messages_in Nothing ≡ []
none_appended = refl

-- the messages of the batch that was appended last come last
two_appended : (first last : _) (a b : _) → messages_in (After' last b (After' first a Nothing)) ≡ first.value.items ++ last.value.items
two_appended first last a b = refl

-- ---- the chains of the arena

waiting : WAITING ≡ 0
waiting = refl

in_flight : IN_FLIGHT ≡ 1
in_flight = refl

ran : RAN ≡ 2
ran = refl

logged : LOGGED ≡ 3
logged = refl

chains : CHAINS ≡ 4
chains = refl
