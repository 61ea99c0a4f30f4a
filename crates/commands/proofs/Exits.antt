-- How a call ends where its arguments give no request, and where they do.
use Rattle.std.proofs.Common.{◌≡◌, ◌∙◌, refl, sym, ap, subst, inl, inr, ℕ, List, [], Option, Some, None, codes}
use Rattle.std.specs.Prelude.{Err, Ok, Result}
use Rattle.std.proofs.KnownBytes.{Appends-nil}
use Rattle.recovery.specs.declared.fault.FormatFault.TheVariants as formatting
use Rattle.recovery.specs.declared.fault.OpenFault.TheVariants as opening
use Rattle.affinity.specs.declared.geometry.Geometry.{Geometry}
use Rattle.affinity.specs.Geometry.{numbers_of}
use Rattle.affinity.specs.Limits.{AreInRange}
use Rattle.affinity.proofs.GeometryLemmas.{geometry_same, are_in_range}
use Rattle.clap.specs.Words.{IsAmong, Text, kind_of}
use Rattle.meaning.specs.Output.{WritesOutput, IsBeginning}
use Rattle.meaning.specs.State.{empty}
use Rattle.plain.specs.declared.fault.PlainFault.TheVariants as plain
use Rattle.serving.specs.Exchange.{Exchange, exchange}
use Rattle.commands.specs.Ends.{EndsFormatting, EndsInMemory, EndsShowing, Ends}
use Rattle.commands.specs.InFile.{EndsInFile}
use Rattle.commands.specs.declared.serve_options.ServeOptions.{ServeOptions}
use Rattle.commands.proofs.Services.{service_same}
use Rattle.commands.specs.Exits.{Exits, ExitsHelp, ExitsRefused}
use Rattle.commands.specs.Services.{AsksServe, within_limits}
use Rattle.commands.specs.Faults.{status_of, status_at, status_of_refusal}
use Rattle.arguments.proofs.Asks.{no_mistake, plain_is_not_serve, two_names}
use Rattle.arguments.specs.Arguments.{Asks, AsksFormat, AsksOutOfRange, RunsNoCommand, AsksPlain, AsksShow, IsReason, command_of, findings, given_to, numbers_in}
use Rattle.commands.specs.declared.faults.Fault.{Fault}
use Rattle.commands.specs.declared.faults.Fault.TheVariants.{Write, OutOfMemory, Format as ByFormat, Open as ByOpen}
use Rattle.arguments.specs.declared.command_line.ArgumentRefusal.{ArgumentRefusal}
use Rattle.arguments.specs.declared.command_line.ArgumentRefusal.TheVariants as refusal
use Rattle.arguments.specs.declared.command_line.Request.{Request}
use Rattle.arguments.specs.declared.command_line.Request.TheVariants.{Help, Plain, Format, Show, Serve}

-- ---- arguments that give no request, or ask for help or the version

pub refused_by : (why : ArgumentRefusal) → ExitsRefused (status_of_refusal why)
refused_by refusal.OutOfMemory = inr refl
refused_by why = inl refl

pub helped : (arguments : List Text) (request : Request) (end : Result (Unit {0}) Fault) (x : Exchange)
    → RunsNoCommand arguments → Asks arguments request → Ends request end x → ExitsHelp (status_at end) × (x.remaining ≡ x.input)
helped arguments (Help text) (Ok _) x no_service asks ends = (inl refl, ends)
helped arguments (Help text) (Err Write) x no_service asks ends = (inr (inl refl), ends)
helped arguments (Help text) (Err fault) x no_service asks ends = absurd ends
helped arguments request end x no_service asks ends = absurd (no_service asks.0)

-- ---- no fault has status 0

pub is_reported : (fault : Fault) → status_of fault ≡ 0 → ⊥
is_reported (ByFormat formatting.OutOfMemory) none = cc
is_reported (ByOpen opening.OutOfMemory) none = cc
is_reported fault none = cc

pub is_refused : (why : ArgumentRefusal) → status_of_refusal why ≡ 0 → ⊥
is_refused (refusal.Words error) none = cc
is_refused why none = cc

-- ---- arguments that ask for a command give no request only for want of memory

none_begun : (g : Geometry) (input old : Option (List ℕ)) → WritesOutput input old old (IsBeginning g empty)
none_begun g None old = tt
none_begun g (Some bytes) old = ([], Appends-nil old, (0, refl))

pub nothing_written : (g : Geometry) (input old : Option (List ℕ)) → EndsInMemory g (Err OutOfMemory) (exchange input input old old)
nothing_written g input old =
    (Err plain.OutOfMemory, refl, record { ok = tt; end = tt; read = λ is. cc; out_of_memory = λ is. none_begun g input old; begun = λ is. cc })

pub exits_for_memory : {P : Result (Unit {0}) Fault → Type 0} (arguments : List Text) (why : ArgumentRefusal) → findings arguments ≡ [] → IsReason arguments why
    → (AsksOutOfRange arguments → ⊥) → P (Err OutOfMemory) → Exits (status_of_refusal why) P
exits_for_memory arguments refusal.OutOfMemory none reason fits h = (Err OutOfMemory, refl, h)
exits_for_memory arguments refusal.GeometryOutOfRange none reason fits h = absurd (fits reason)
exits_for_memory arguments (refusal.Words error) none reason fits h = absurd (no_mistake arguments error none reason)

pub numbers_fit : (g : Geometry) (arguments : List Text) → numbers_of g ≡ numbers_in (given_to (command_of arguments)) → AsksOutOfRange arguments → ⊥
numbers_fit g arguments are wrong = wrong.1.2 (subst AreInRange are (are_in_range g))

-- ---- what the arguments ask for is done

pub served : (arguments : List Text) (request : Request) {g : Geometry} (end : Result (Unit {0}) Fault) {x : Exchange} → Asks arguments request
    → AsksPlain arguments g → Ends request end x → Exits (status_at end) (λ end. EndsInMemory g end x)
served arguments (Plain h) {g} end {x} given asks ends =
    (end, refl, subst (λ k. EndsInMemory k end x) (geometry_same h g (given.1.1 ∙ sym asks.2)) ends)
served arguments (Format path h) end given asks ends = let same : codes "plain" ≡ codes "format" = two_names _ _ (command_of arguments) asks.1 given.1.0 in cc
served arguments (Show path) end given asks ends = let same : codes "plain" ≡ codes "show" = two_names _ _ (command_of arguments) asks.1 given.1.0 in cc
served arguments (Serve path s) end given asks ends = absurd (plain_is_not_serve (two_names _ _ (command_of arguments) asks.1 given.1.0))
served arguments (Help text) end given asks ends = absurd (subst (IsAmong (kind_of text)) asks.0 given.0)

pub formatted : (arguments : List Text) (request : Request) {path : List ℕ} (g : Geometry) (end : Result (Unit {0}) Fault) {x : Exchange}
    → Asks arguments request → AsksFormat arguments path g → Ends request end x → Exits (status_at end) (λ end. EndsFormatting g end x.before x.written) × (x.remaining ≡ x.input)
formatted arguments (Plain h) g end given asks ends = let same : codes "plain" ≡ codes "format" = two_names _ _ (command_of arguments) given.1.0 asks.1 in cc
formatted arguments (Format there h) g end {x} given asks ends =
    ((end, refl, subst (λ k. EndsFormatting k end x.before x.written) (geometry_same h g (given.1.2 ∙ sym asks.3)) ends.1), ends.0)
formatted arguments (Show there) g end given asks ends = let same : codes "format" ≡ codes "show" = two_names _ _ (command_of arguments) asks.1 given.1.0 in cc
formatted arguments (Serve there s) g end given asks ends = let same : codes "format" ≡ codes "serve" = two_names _ _ (command_of arguments) asks.1 given.1.0 in cc
formatted arguments (Help text) g end given asks ends = absurd (subst (IsAmong (kind_of text)) asks.0 given.0)

pub shown : (arguments : List Text) (request : Request) {path : List ℕ} (end : Result (Unit {0}) Fault) {x : Exchange} → Asks arguments request
    → AsksShow arguments path → Ends request end x → Exits (status_at end) (λ end. EndsShowing end x.before x.written) × (x.remaining ≡ x.input)
shown arguments (Plain h) end given asks ends = let same : codes "plain" ≡ codes "show" = two_names _ _ (command_of arguments) given.1.0 asks.1 in cc
shown arguments (Format there h) end given asks ends = let same : codes "format" ≡ codes "show" = two_names _ _ (command_of arguments) given.1.0 asks.1 in cc
shown arguments (Show there) end given asks ends = ((end, refl, ends.1), ends.0)
shown arguments (Serve there s) end given asks ends = let same : codes "show" ≡ codes "serve" = two_names _ _ (command_of arguments) asks.1 given.1.0 in cc
shown arguments (Help text) end given asks ends = absurd (subst (IsAmong (kind_of text)) asks.0 given.0)

pub served_on : (arguments : List Text) (request : Request) {path : List ℕ} {s : ServeOptions} (end : Result (Unit {0}) Fault) {x : Exchange}
    → Asks arguments request → AsksServe arguments path s → Ends request end x → Exits (status_at end) (λ end. EndsInFile s end x)
served_on arguments (Plain h) end given asks ends = absurd (plain_is_not_serve (two_names _ _ (command_of arguments) given.1.0 asks.1))
served_on arguments (Format there h) end given asks ends = let same : codes "format" ≡ codes "serve" = two_names _ _ (command_of arguments) given.1.0 asks.1 in cc
served_on arguments (Show there) end given asks ends = let same : codes "show" ≡ codes "serve" = two_names _ _ (command_of arguments) given.1.0 asks.1 in cc
served_on arguments (Serve there t) {s} end {x} given asks ends =
    (end, refl, subst (λ u. EndsInFile u end x) (service_same ends.0 s (ends.1 ∙ ap within_limits given.1.2 ∙ sym asks.3)) ends.2)
served_on arguments (Help text) end given asks ends = absurd (subst (IsAmong (kind_of text)) asks.0 given.0)
