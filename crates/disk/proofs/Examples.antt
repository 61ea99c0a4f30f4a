-- Worked examples of the definitions.
use Rattle.std.proofs.Common.{◌≡◌, ◌<◌, ℕ, true, false, List, [], ◌∷◌, inl, inr, refl, slice_index, lit<, lit≤, arith}
use Rattle.std.specs.List.{AllByRecursion}
use Rattle.std.proofs.lemmas.List.Elements.{All-from_recursion}
use Rattle.disk.specs.CrashImages.{AreBytes, IsTornFrom, left_since, torn_from}
use Rattle.disk.specs.Device.{Medium, overlaid, marked, fresh_synced, written, synced, moment_number}
use Rattle.disk.proofs.CrashImagesAre.{bytes_since}

-- what is written past the end is left out
over_the_middle : overlaid {X = ℕ} (1 ∷ 2 ∷ 3 ∷ 4 ∷ []) 1 (8 ∷ 9 ∷ []) ≡ 1 ∷ 8 ∷ 9 ∷ 4 ∷ []
over_the_middle = refl

over_the_end : overlaid {X = ℕ} (1 ∷ 2 ∷ 3 ∷ []) 2 (8 ∷ 9 ∷ []) ≡ 1 ∷ 2 ∷ 8 ∷ []
over_the_end = refl

marks_of_a_write : marked (false ∷ true ∷ false ∷ false ∷ false ∷ []) 2 2 ≡ false ∷ true ∷ true ∷ true ∷ false ∷ []
marks_of_a_write = refl

-- the bytes of a list of this form are below 256
below : (bytes : List ℕ) → AllByRecursion (λ b. b < 256) bytes → AreBytes bytes
below bytes are = All-from_recursion (λ b. b < 256) bytes are

two_bytes : AreBytes (0 ∷ 255 ∷ [])
two_bytes = below (0 ∷ 255 ∷ []) (lit< tt, (lit< tt, tt))

no_byte : AreBytes (0 ∷ 256 ∷ []) → ⊥
no_byte are = let second : 256 < 256 = are 1 0 (lit< tt) in omega (arith, second)

-- any byte at the unsynced offset, and the same elsewhere
torn_there : IsTornFrom (1 ∷ 2 ∷ 3 ∷ []) (false ∷ true ∷ false ∷ []) (1 ∷ 77 ∷ 3 ∷ [])
torn_there = record { same = (refl, (refl, tt)); bytes = below (1 ∷ 77 ∷ 3 ∷ []) (lit< tt, (lit< tt, (lit< tt, tt))) }

greatest_byte : IsTornFrom (1 ∷ 2 ∷ []) (false ∷ true ∷ []) (1 ∷ 255 ∷ [])
greatest_byte = record { same = (refl, tt); bytes = below (1 ∷ 255 ∷ []) (lit< tt, (lit< tt, tt)) }

no_greater_one : IsTornFrom (1 ∷ 2 ∷ []) (false ∷ true ∷ []) (1 ∷ 256 ∷ []) → ⊥
no_greater_one left = let second : 256 < 256 = left.bytes 1 0 (lit< tt) in omega (arith, second)

not_elsewhere : IsTornFrom (1 ∷ 2 ∷ 3 ∷ []) (false ∷ true ∷ false ∷ []) (1 ∷ 2 ∷ 4 ∷ []) → ⊥
not_elsewhere left = let last = left.same.1.0 in cc

no_longer : IsTornFrom (1 ∷ []) (true ∷ []) (1 ∷ 1 ∷ []) → ⊥
no_longer left = left.same

-- bytes 5 and 6 are written and synced, and then 9 is written over the 5
abbrev twice : Medium
twice = written 0 (9 ∷ []) (synced (written 0 (5 ∷ 6 ∷ []) (fresh_synced (1 ∷ 2 ∷ []))))

three_moments_before : moment_number twice ≡ 3
three_moments_before = refl

-- A crash may leave the old bytes at first, and any bytes while both are unsynced; at the end only the first byte may be any byte.
old_at_first : left_since twice 0 (1 ∷ 2 ∷ [])
old_at_first = inr (inr (inl (lit≤ tt, record { same = tt; bytes = below (1 ∷ 2 ∷ []) (lit< tt, (lit< tt, tt)) })))

torn_while_unsynced : left_since twice 1 (7 ∷ 8 ∷ [])
torn_while_unsynced = inr (inr (inl (lit≤ tt, record { same = tt; bytes = below (7 ∷ 8 ∷ []) (lit< tt, (lit< tt, tt)) })))

torn_at_the_end : left_since twice 3 (7 ∷ 6 ∷ [])
torn_at_the_end = inl (lit≤ tt, record { same = (refl, tt); bytes = below (7 ∷ 6 ∷ []) (lit< tt, (lit< tt, tt)) })

no_greater_one_at_any_moment : left_since twice 0 (1 ∷ 256 ∷ []) → ⊥
no_greater_one_at_any_moment left = let second : 256 < 256 = bytes_since twice 0 (1 ∷ 256 ∷ []) left 1 0 (lit< tt) in omega (arith, second)

-- what the two unsynced places get depends on their place, and on how many lie below them
torn_by_place : torn_from (λ place below. slice_index (10 ∷ 20 ∷ 30 ∷ []) place) 0 0 (false ∷ true ∷ true ∷ []) (1 ∷ 2 ∷ 3 ∷ []) ≡ 1 ∷ 20 ∷ 30 ∷ []
torn_by_place = refl

torn_by_rank : torn_from (λ place below. slice_index (10 ∷ 20 ∷ 30 ∷ []) below) 0 0 (false ∷ true ∷ true ∷ []) (1 ∷ 2 ∷ 3 ∷ []) ≡ 1 ∷ 10 ∷ 20 ∷ []
torn_by_rank = refl
