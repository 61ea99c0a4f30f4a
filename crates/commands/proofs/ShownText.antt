-- What is printed of a device.
use Rattle.std.proofs.Common.{◌≡◌, ℕ, List, Option, subst, sym}
use Rattle.std.specs.Prelude.{Result, Ok, Err, IfErr, OnErr, OnOk}
use Rattle.std.specs.Io.KnownBytes.{Appends}
use Rattle.recovery.specs.Shown.{IsShown}
use Rattle.recovery.specs.declared.inspecting.Shown.{Shown}
use Rattle.message.specs.AppendsBeginning.{AppendsBeginning}
use Rattle.commands.specs.Ends.{EndsShowing, ShowsBytes}
use Rattle.commands.specs.Lines.{shown_lines}
use Rattle.commands.specs.declared.faults.Fault.{Fault}
use Rattle.commands.specs.declared.faults.Fault.TheVariants.{Write}

-- the lines of a device that is shown are written, or the writer fails
pub shows : (shown : Shown) {lines : List ℕ} (end : Result (Unit {0}) Fault) (old new : Option (List ℕ)) → lines ≡ shown_lines shown → OnOk end (Appends old new lines)
    → OnErr end (AppendsBeginning old new lines) → IfErr end (λ fault. fault ≡ Write) → EndsShowing end old new
shows shown (Ok _) old new are written begun fault = (shown, subst (Appends old new) are written)
shows shown (Err e) old new are written begun fault = subst (λ f. EndsShowing (Err f) old new) (sym fault) (shown, subst (AppendsBeginning old new) are begun)

-- the same, where these are the lines for the bytes of the device
pub shows_bytes : {bytes : List ℕ} {shown : Shown} {lines : List ℕ} (end : Result (Unit {0}) Fault) (old new : Option (List ℕ)) → IsShown bytes shown → lines ≡ shown_lines shown
    → OnOk end (Appends old new lines) → OnErr end (AppendsBeginning old new lines) → IfErr end (λ fault. fault ≡ Write) → ShowsBytes bytes end old new
shows_bytes {shown} (Ok _) old new is are written begun fault = (shown, is, subst (Appends old new) are written)
shows_bytes {bytes} {shown} (Err e) old new is are written begun fault =
    subst (λ f. ShowsBytes bytes (Err f) old new) (sym fault) (shown, is, subst (AppendsBeginning old new) are begun)
