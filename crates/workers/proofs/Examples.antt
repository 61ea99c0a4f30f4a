-- Worked examples of the constants that the rule of the bench cites.
use Rattle.std.proofs.Common.{◌≡◌, refl}
use Rattle.workers.specs.declared.words.TheConstants.{FIRST_PLACE, MOST_PLACES, EMPTY, OFFERED, CLAIMED, DELIVERED}

first_place : FIRST_PLACE ≡ 48
first_place = refl

most_places : MOST_PLACES ≡ 64
most_places = refl

empty : EMPTY ≡ 0
empty = refl

offered : OFFERED ≡ 1
offered = refl

claimed : CLAIMED ≡ 2
claimed = refl

delivered : DELIVERED ≡ 3
delivered = refl
