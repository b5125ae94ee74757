-- What an answer tells.
use Rattle.std.proofs.Common.{◌≡◌, Option, Some, None, subst}
use Rattle.std.specs.Prelude.{Err, IfNone, IfOk, IfSome, Ok, Result}

pub if_none : {X P Q : Type 0} (r : Option X) → (P → Q) → IfNone r P → IfNone r Q
if_none None f h = f h
if_none (Some x) f h = tt

pub if_some : {X : Type 0} {P Q : X → Type 0} (r : Option X) → ((x : X) → P x → Q x) → IfSome r P → IfSome r Q
if_some None f h = tt
if_some (Some x) f h = f x h

pub is_none : {X : Type 0} (P : Type 0) (r : Option X) → P → IfNone r P
is_none P None h = h
is_none P (Some x) h = tt

pub from_none : {X P : Type 0} (r : Option X) → r ≡ None → IfNone r P → P
from_none None e h = h
from_none (Some x) e h = absurd cc

pub if_ok : {X E : Type 0} {P Q : X → Type 0} (r : Result X E) → ((x : X) → P x → Q x) → IfOk r P → IfOk r Q
if_ok (Ok x) f h = f x h
if_ok (Err e) f h = tt

pub from_some : {X : Type 0} (P : X → Type 0) (r : Option X) (x : X) → r ≡ Some x → IfSome r P → P x
from_some P None x e h = absurd cc
from_some P (Some y) x e h = let same : y ≡ x = cc in subst P same h
