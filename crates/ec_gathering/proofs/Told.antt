-- What is told of an option, by what it is.
use Rattle.std.proofs.Common.{◌≡◌, Option, Some, None, false, refl, subst}
use Rattle.std.specs.Prelude.{IfNone, IfSome, is_some}

pub if_some : {A : Type 0} (P : A → Type 0) (o : Option A) → ((x : A) → o ≡ Some x → P x) → IfSome o P
if_some P None f = tt
if_some P (Some x) f = f x refl

pub if_none : {A P : Type 0} (o : Option A) → (is_some o ≡ false → P) → IfNone o P
if_none None f = f refl
if_none (Some x) f = tt

pub none_told : {A P : Type 0} (o : Option A) → is_some o ≡ false → IfNone o P → P
none_told None e told = told
none_told (Some x) e told = absurd cc

pub some_told : {A : Type 0} (P : A → Type 0) (o : Option A) (x : A) → o ≡ Some x → IfSome o P → P x
some_told P None x e told = absurd cc
some_told P (Some y) x e told = let same : y ≡ x = cc in subst P same told
