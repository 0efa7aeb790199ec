-- What holds of the value of a call that may fail.
use Rattle.std.proofs.Common.{Ok, Err}
use Rattle.std.specs.Result.{IfOk}
use Rattle.std.specs.Prelude.{Result}

pub if_ok : {T E : Type 0} (r : Result T E) (P R : T → Type 0) → ((x : T) → P x → R x) → IfOk r P → IfOk r R
if_ok (Ok x) P R f p = f x p
if_ok (Err e) P R f p = p

pub if_both : {T E : Type 0} (r : Result T E) (P Q R : T → Type 0) → ((x : T) → P x → Q x → R x) → IfOk r P → IfOk r Q → IfOk r R
if_both (Ok x) P Q R f p q = f x p q
if_both (Err e) P Q R f p q = p
