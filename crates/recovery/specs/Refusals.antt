-- Statement for operators: Which devices are refused, and why.
use Rattle.std.specs.Prelude.{◌+◌, ◌≡◌, ◌≢◌, ◌⊎◌, ◌<◌, ◌≤◌, ℕ, zero, suc, Bool, not, ◌&&◌, ◌==◌, nat_lt, if◌then◌else◌, List, [], ◌∷◌, length, take, Option, Some, None, is_some}
use Rattle.affinity.specs.declared.geometry.Geometry.{Geometry}
use Rattle.recovery.specs.declared.fault.OpenFault.{OpenFault}
use Rattle.recovery.specs.declared.fault.OpenFault.TheVariants.{Device, TooShort, NotFormatted, BadGeometry, OutOfMemory, BadVersion, BadPiece, BadChain, BadRecord}
use Rattle.recovery.specs.Header.{HasHeader, magic}
use Rattle.recovery.specs.Recovery.{after_record, decoding}
use Rattle.image.specs.Image.{has_head, is_good, image_state}
use Rattle.image.specs.Pieces.{piece_count}
use Rattle.oplog.specs.HalfContent.{chain, front}
use Rattle.device_map.specs.Layout.{layout_of, part_bytes, device_size, image_part, other}
use Rattle.device_map.specs.declared.layout.TheConstants.{HEADER_SIZE, ROOT_ZONE_SIZE}
use Rattle.oplog.specs.Recovery.{named_area, run}
use Rattle.meaning.specs.State.{State}

-- the least of the n numbers from i on that isn't good
abbrev pub first_bad : (ℕ → Bool) → ℕ → ℕ → Option ℕ
first_bad is_good i zero = None
first_bad is_good i (suc n) = if is_good i then first_bad is_good (suc i) n else Some i

-- the first piece of an image whose bytes are not those that its decoded state has there
abbrev pub first_bad_piece : Geometry → List ℕ → Option ℕ
first_bad_piece g bytes = first_bad (is_good g bytes) 0 (piece_count g)

-- Of records that are run on a state: the number of the first that can't be run, counted from i.
abbrev pub first_bad_record : Geometry → ℕ → Option State → List (List ℕ) → Option ℕ
first_bad_record g i None rs = None
first_bad_record g i (Some x) [] = None
first_bad_record g i (Some x) (r ∷ rs) = if is_some (after_record g x r) then first_bad_record g (suc i) (after_record g x r) rs else Some i

-- ---- one test after another

-- this fault if the test holds, else the later one
abbrev pub fault_if : Bool → OpenFault → Option OpenFault → Option OpenFault
fault_if test fault later = if test then Some fault else later

-- the fault of this number if there is one, else the later one
abbrev pub fault_or_later : (ℕ → OpenFault) → Option ℕ → Option OpenFault → Option OpenFault
fault_or_later fault None later = later
fault_or_later fault (Some n) later = Some (fault n)

-- Why a device with the header of this geometry is refused, in the order in which it is looked for. None: it isn't.
abbrev pub refused : Geometry → List ℕ → Option OpenFault
refused g c =
    let l = layout_of g in
    let n = named_area l c in
    let bytes = part_bytes l (image_part n) c in
    let chained = if chain l n c == 1 then front l (other n) c else [] in
    fault_if (nat_lt (length c) (device_size l)) TooShort
    (fault_if (not (has_head bytes)) BadVersion
    (fault_or_later BadPiece (first_bad_piece g bytes)
    (fault_if ((chain l 0 c == 1) && (chain l 1 c == 1)) BadChain
    (fault_or_later (BadRecord n) (first_bad_record g 0 (image_state g bytes) (front l n c))
    (fault_or_later (BadRecord (other n)) (first_bad_record g 0 (run (decoding g) (image_state g bytes) (front l n c)) chained) None)))))

-- The device is long enough for a header and a root zone, and doesn't begin with the magic.
abbrev pub IsUnformatted : List ℕ → Type 0
IsUnformatted c = (HEADER_SIZE + ROOT_ZONE_SIZE ≤ length c) × (take 8 c ≢ magic)

-- The device begins with the magic, and no geometry has its header.
abbrev pub HasNoGeometry : List ℕ → Type 0
HasNoGeometry c = (HEADER_SIZE + ROOT_ZONE_SIZE ≤ length c) × (take 8 c ≡ magic) × ((g : Geometry) → HasHeader g c → ⊥)

-- The device has the header of a geometry, and is long enough for all its parts.
pub record HasHeaderAndParts (c : List ℕ) : Type 0 where
  pub geometry : Geometry
  pub header : HasHeader geometry c
  pub parts : device_size (layout_of geometry) ≤ length c

-- The device has the header of a geometry, and is refused with this fault.
pub record IsRefusedWith (c : List ℕ) (fault : OpenFault) : Type 0 where
  pub geometry : Geometry
  pub long : HEADER_SIZE + ROOT_ZONE_SIZE ≤ length c
  pub header : HasHeader geometry c
  pub is : refused geometry c ≡ Some fault

-- This fault is a right answer to these bytes. `Device` and `OutOfMemory` always are, as bytes show neither.
abbrev pub IsRefused : List ℕ → OpenFault → Type 0
IsRefused c Device = Unit {0}
IsRefused c OutOfMemory = Unit {0}
IsRefused c NotFormatted = IsUnformatted c
IsRefused c BadGeometry = HasNoGeometry c
IsRefused c TooShort = (length c < HEADER_SIZE + ROOT_ZONE_SIZE) ⊎ IsRefusedWith c TooShort
IsRefused c fault = IsRefusedWith c fault
