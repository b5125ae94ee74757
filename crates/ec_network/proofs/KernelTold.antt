-- What an answer tells, once it is known which it is.
use Rattle.std.proofs.Common.{◌≡◌, Option, Some, None, subst}
use Rattle.std.specs.Prelude.{Err, IfErr, IfNone, IfSome, Ok, Result}

pub none_told : {A P : Type 0} (x : Option A) → x ≡ None → IfNone x P → P
none_told None e told = told
none_told (Some a) e told = absurd cc

pub some_told : {A : Type 0} (P : A → Type 0) (x : Option A) (a : A) → x ≡ Some a → IfSome x P → P a
some_told P None a e told = absurd cc
some_told P (Some b) a e told = let same : b ≡ a = cc in subst P same told

pub if_err : {X E : Type 0} {P Q : E → Type 0} (r : Result X E) → ((e : E) → P e → Q e) → IfErr r P → IfErr r Q
if_err (Ok x) f p = tt
if_err (Err e) f p = f e p
