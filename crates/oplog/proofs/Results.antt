-- A call whose answer is known not to be a fault, or to be this one; and what holds at `Ok` under a condition.
use Rattle.std.proofs.Common.{◌≡◌, false, Result, Ok, Err, OnOk, is_err, ap}
use Rattle.std.specs.Result.{IsErrAnd}

pub on_ok : {T E : Type 0} (r : Result T E) (P : Type 0) → is_err r ≡ false → OnOk r P → P
on_ok (Ok x) P is held = held
on_ok (Err e) P is held = cc

pub on_ok_under : {T E : Type 0} (r : Result T E) (K P : Type 0) → (K → OnOk r P) → OnOk r (K → P)
on_ok_under (Ok x) K P held = held
on_ok_under (Err e) K P held = tt

pub err_is : {T E : Type 0} {r : Result T E} {e : E} → IsErrAnd r (λ y. y ≡ e) → r ≡ Err e
err_is {r = Ok x} is = absurd is
err_is {r = Err y} is = ap Err is
