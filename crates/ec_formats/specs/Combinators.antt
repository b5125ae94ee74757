-- Formats made of formats.
use Rattle.std.specs.Prelude.{ℕ, Bool, ◌&&◌, List, ◌++◌, length, Ok, Err, if◌then◌else◌}
use Rattle.ec_formats.specs.Format.{◌>>=◌, Format, Read}

module _ {A : Type 0} where
  abbrev pub ruled : (A → Bool) → ℕ → A × List ℕ → Read A
  ruled rule here x = if rule x.0 then Ok x else Err here

  -- a field that has to keep a rule
  abbrev pub such_that : Format A → (A → Bool) → Format A
  such_that f rule = record {
    spell = f.spell;
    fits = λ a. f.fits a && rule a;
    read = λ bytes. f.read bytes >>= λ x. ruled rule (length bytes) x;
  }

module _ {A B : Type 0} where
  -- a value and another behind it, whose format may depend on the first
  abbrev pub pair : Format A → (A → Format B) → Format (A × B)
  pair f g = record {
    spell = λ x. f.spell x.0 ++ (g x.0).spell x.1;
    fits = λ x. f.fits x.0 && (g x.0).fits x.1;
    read = λ bytes. f.read bytes >>= λ a. (g a.0).read a.1 >>= λ b. Ok ((a.0, b.0), b.1);
  }

  -- the same bytes for values of another type
  abbrev pub through : (A → B) → (B → A) → Format A → Format B
  through to from f = record {
    spell = λ b. f.spell (from b);
    fits = λ b. f.fits (from b);
    read = λ bytes. f.read bytes >>= λ a. Ok (to a.0, a.1);
  }

infixr 5 ◌followed_by◌
-- a value and another behind it
abbrev pub ◌followed_by◌ : {A B : Type 0} → Format A → Format B → Format (A × B)
f followed_by g = pair f (λ _. g)
