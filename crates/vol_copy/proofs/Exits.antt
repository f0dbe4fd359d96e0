-- What an exit of `?` answers.
use Rattle.std.proofs.Common.{◌≡◌, Result, Ok, Err, sym, ◌∙◌, subst}
use Rattle.std.specs.Prelude.{IfErr}
use Rattle.std.specs.Result.{IsErrAnd}

pub passed : {T E : Type 0} (P : E → Type 0) (result : Result T E) (why : E) → IsErrAnd result (λ e. e ≡ why) → P why → IfErr result P
passed P (Ok x) why same failed = absurd same
passed P (Err e) why same failed = rw same failed

pub passed_as : {T E : Type 0} (P : Result T E → Type 0) (result : Result T E) (why : E) → IsErrAnd result (λ e. e ≡ why) → P (Err why) → P result
passed_as P (Ok x) why same failed = absurd same
passed_as P (Err e) why same failed = subst (λ (y : _). P (Err y)) (sym same) failed

-- what it is, where it is known what was passed on
pub passed_is : {T E : Type 0} (result : Result T E) (why : E) → IsErrAnd result (λ e. e ≡ why) → (other : E) → result ≡ Err other → why ≡ other
passed_is (Ok x) why same other is = absurd same
passed_is (Err e) why same other is = let e_is : e ≡ other = cc in sym same ∙ e_is
