-- Statement for engineers: What a device recovers to after a crash, for the layer above, without the places of bytes. Most laws take
-- `CrashRecovers` of the device before a sequence of calls. A law about a crash during the calls concludes `RecoversBy`, or what is built
-- on it, of whatever the crash leaves. A law about the device after the calls (`AllRecover`, `ChainedRecovers`, `FlipRecovers`) concludes
-- `CrashRecovers`, which the next law takes: so laws can be chained.
use Rattle.std.specs.Prelude.{◌≡◌, ◌≢◌, ◌<◌, ◌≤◌, ℕ, List, [], length, take, Option}
use Rattle.disk.specs.Device.{Medium}
use Rattle.disk.specs.CrashImages.{IsCrashImage, CrashImagesAre, After}
use Rattle.device_map.specs.Layout.{Layout, image_part, other}
use Rattle.oplog.specs.HalfContent.{chain, front}
use Rattle.oplog.specs.Recovery.{Decoding, named_area, current_of, recovers_by_area, run}
use Rattle.oplog.specs.Changes.{HasAppendedPrefix, HasAppendedAll, IsSameBut, IsSameButChainAndGates, IsSameButChain, IsSameButRoot, Chained, Flipped}

module _ {S : Type 0} (decoding : Decoding S) where
  -- These bytes recover to x by area n, which they name, with half h as their current one. If h is n, the front of half n
  -- alone is in force, else both fronts are.
  pub record RecoversBy (l : Layout) (n h : ℕ) (x : Option S) (c : List ℕ) : Type 0 where
    pub named : named_area l c ≡ n
    pub current : current_of l n c ≡ h
    pub is : recovers_by_area decoding l n c ≡ x

  -- Whatever a crash leaves now recovers to x by area n, with half h as its current one.
  abbrev pub CrashRecovers : Layout → ℕ → ℕ → Option S → Medium → Type 0
  CrashRecovers l n h x m = (c : List ℕ) → IsCrashImage m c → RecoversBy l n h x c

  -- These bytes recover to x with a prefix of these records run on it.
  pub record RecoversByPrefix (l : Layout) (n h : ℕ) (x : Option S) (more : List (List ℕ)) (c : List ℕ) : Type 0 where
    pub added : ℕ
    pub at_most : added ≤ length more
    pub by : RecoversBy l n h (run decoding x (take added more)) c

  -- These bytes recover to x by the area that they name, whichever half is current.
  abbrev pub RecoversByNamed : Layout → Option S → List ℕ → Type 0
  RecoversByNamed l x c = RecoversBy l (named_area l c) (current_of l (named_area l c) c) x c

  -- Whatever a crash leaves now would recover to x, whichever area it named.
  abbrev pub RecoversEitherWay : Layout → Option S → Medium → Type 0
  RecoversEitherWay l x m = (c : List ℕ) → IsCrashImage m c → (recovers_by_area decoding l 0 c ≡ x) × (recovers_by_area decoding l 1 c ≡ x)

  -- Records are appended to the current half. A crash at any moment leaves a prefix of them.
  abbrev pub AppendRecovers : Type 0
  AppendRecovers = (l : Layout) (n h : ℕ) (x : Option S) (more : List (List ℕ)) (old new : Medium) → n < 2 → h < 2
      → CrashRecovers l n h x old
      → CrashImagesAre old new (HasAppendedPrefix l h more old) → CrashImagesAre old new (RecoversByPrefix l n h x more)

  -- Once all records are appended, whatever a crash leaves recovers to x with all of them run on it.
  abbrev pub AllRecover : Type 0
  AllRecover = (l : Layout) (n h k : ℕ) (x : Option S) (more : List (List ℕ)) (old new : Medium) → n < 2 → h < 2 → CrashRecovers l n h x old
      → HasAppendedAll l h k more old new → CrashRecovers l n h (run decoding x more) new

  -- While the image that isn't named is written, be one front in force or both, whatever a crash leaves recovers to x.
  abbrev pub ImageRecovers : Type 0
  ImageRecovers = (l : Layout) (n h : ℕ) (x : Option S) (old new : Medium) → n < 2 → CrashRecovers l n h x old
      → CrashImagesAre old new (After old (IsSameBut l (image_part (other n)))) → CrashImagesAre old new (RecoversBy l n h x)

  -- While the half that isn't named is cleared (`IsSameButChainAndGates`: its chain zone changes, too), and isn't the current one, whatever
  -- a crash leaves recovers to x.
  abbrev pub ClearRecovers : Type 0
  ClearRecovers = (l : Layout) (n : ℕ) (x : Option S) (old new : Medium) → n < 2 → CrashRecovers l n n x old
      → CrashImagesAre old new (After old (IsSameButChainAndGates l (other n))) → CrashImagesAre old new (RecoversBy l n n x)

  -- The chain byte of the named half is written, while the other half has no record in its front and no chain.
  -- Whatever becomes of the byte, the device recovers to x.
  abbrev pub ChainRecovers : Type 0
  ChainRecovers = (l : Layout) (n : ℕ) (x : Option S) (old new : Medium) → n < 2 → CrashRecovers l n n x old
      → ((c : List ℕ) → IsCrashImage old c → (front l (other n) c ≡ []) × (chain l (other n) c ≢ 1))
      → CrashImagesAre old new (After old (IsSameButChain l n)) → CrashImagesAre old new (λ c. RecoversBy l n (current_of l n c) x c)

  -- Once the chain byte of the named half is 1, whatever a crash leaves recovers to x, with the other half as its current one.
  abbrev pub ChainedRecovers : Type 0
  ChainedRecovers = (l : Layout) (n : ℕ) (x : Option S) (old new : Medium) → n < 2 → RecoversBy l n n x old.now
      → (front l (other n) old.now ≡ []) × (chain l (other n) old.now ≢ 1) → Chained l n old new → CrashRecovers l n (other n) x new

  -- The byte that names an area is written on a device that would recover to x either way. Whatever a crash leaves of
  -- that byte, the device recovers to x.
  abbrev pub TornRootRecovers : Type 0
  TornRootRecovers = (l : Layout) (x : Option S) (old new : Medium) → RecoversEitherWay l x old
      → CrashImagesAre old new (After old (IsSameButRoot l)) → CrashImagesAre old new (RecoversByNamed l x)

  -- Once area n is named, whatever a crash leaves recovers to what the device would have recovered to by that area.
  abbrev pub FlipRecovers : Type 0
  FlipRecovers = (l : Layout) (n h : ℕ) (x : Option S) (old new : Medium) → Flipped l n old new
      → current_of l n old.now ≡ h → recovers_by_area decoding l n old.now ≡ x → CrashRecovers l n h x new
