-- Facts of the value of a result, and of an answer.
use Rattle.std.proofs.Common.{ℕ, List, Result, Ok, Err, IfOk}
use Rattle.ec_report.specs.declared.answer.Answer.{Answer}
use Rattle.ec_report.specs.declared.status.Status.{Status}
use Rattle.ec_report.specs.Says.{Says}

pub if_ok_one : {A E : Type 0} (P R : A → Type 0) (r : Result A E) → IfOk r P → ((a : A) → P a → R a) → IfOk r R
if_ok_one P R (Ok a) p f = f a p
if_ok_one P R (Err e) p f = tt

pub if_ok_two : {A E : Type 0} (P Q R : A → Type 0) (r : Result A E) → IfOk r P → IfOk r Q → ((a : A) → P a → Q a → R a) → IfOk r R
if_ok_two P Q R (Ok a) p q f = f a p q
if_ok_two P Q R (Err e) p q f = tt

-- what holds of a status and a text holds of an answer that says them
said_of : (P : Status → List ℕ → Type 0) (a : Answer) (s : Status) (t : List ℕ) → Says a s t → P s t → P a.status a.text.items
said_of P a s t e p = rw (e.0, e.1) p

pub said : {E : Type 0} (P : Status → List ℕ → Type 0) (s : Status) (t : List ℕ) (r : Result Answer E) → IfOk r (λ a. Says a s t) →
    P s t → IfOk r (λ a. P a.status a.text.items)
said P s t (Ok a) e p = said_of P a s t e p
said P s t (Err x) e p = tt

-- what holds of the status and the text of an answer implies what follows from it
pub implied : {E : Type 0} (P Q : Status → List ℕ → Type 0) (r : Result Answer E) → IfOk r (λ a. P a.status a.text.items) →
    ((s : Status) (t : List ℕ) → P s t → Q s t) →
    IfOk r (λ a. Q a.status a.text.items)
implied P Q (Ok a) p f = f a.status a.text.items p
implied P Q (Err x) p f = tt
