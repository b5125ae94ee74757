-- What is read of the text of a number.
use Rattle.std.proofs.Common.{arith, ◌≡◌, sym, ap, ◌∙◌, subst, ◌≤◌, ◌<◌, ◌^◌, ℕ, [], Option, Some, codes}
use Rattle.std.specs.Prelude.{Result, unwrap_or}
use Rattle.std.specs.Str.Parse.{ParsesUnsigned, ExplainsUnsignedError, HasUnsignedDigitsIfOk, digits_value, without_leading_plus}
use Rattle.std.specs.declared.num.ParseIntError.{ParseIntError}
use Rattle.clap.specs.Lexer.{without_minus}
use Rattle.clap.specs.Matches.{ReadsOne, one_text}
use Rattle.clap.specs.Walk.{Text, one_of, rows_of}
use Rattle.clap.specs.declared.parser.matches.Found.{Found}
use Rattle.clap.proofs.CallerReads.{signed_reads}
use Rattle.clap.proofs.WalkLemmas.{one_text-rows}
use Rattle.ec_inputs.specs.Words.{IsBudget, IsNumberIn, IsTrialNumber, number_at}

abbrev Gives : Text → Result ℕ ParseIntError → Type 0
Gives bs r = ParsesUnsigned 32 10 bs r × ExplainsUnsignedError 10 bs r × HasUnsignedDigitsIfOk bs r

-- there is a number, in its range, and the one that the text writes
pub record IsRead (id : Text) (low high : ℕ) (found : Found) (r : Option ℕ) : Type 0 where
  pub number : ℕ
  pub some : r ≡ Some number
  pub least : low ≤ number
  pub most : number ≤ high
  pub written : number ≡ number_at id (rows_of found)

pub number_read : (id : Text) (low high : ℕ) → high < 2 ^ 32 → (found : Found) (r : Option ℕ) →
    ((t : Text) → one_text found id ≡ Some t → ReadsOne Gives t r)
    → IsNumberIn low high (one_of id (rows_of found)) → IsRead id low high found r
number_read id low high fits found r reads b =
    let text : one_text found id ≡ Some (without_minus b.0) = one_text-rows found id ∙ b.1 in
    let read = reads (without_minus b.0) text in
    let got = signed_reads ParseIntError Gives 32 low high b.0 r read (λ u x g. g.0) fits b.2 in
    let gives : ReadsOne Gives (without_minus b.0) (Some got.0) = subst (λ o. ReadsOne Gives (without_minus b.0) o) got.1 read in
    record {
      number = got.0;
      some = got.1;
      least = got.2;
      most = got.3;
      written = gives.0.1 ∙ ap (λ o. digits_value 10 (without_leading_plus (unwrap_or o []))) (sym b.1);
    }

pub budget_read : (found : Found) (r : Option ℕ) → ((t : Text) → one_text found (codes "budget") ≡ Some t → ReadsOne Gives t r)
    → IsBudget (one_of (codes "budget") (rows_of found)) → IsRead (codes "budget") 1 4000000000 found r
budget_read = number_read (codes "budget") 1 4000000000 (omega arith)

pub trial_number_read : (found : Found) (r : Option ℕ) → ((t : Text) → one_text found (codes "number") ≡ Some t → ReadsOne Gives t r)
    → IsTrialNumber (one_of (codes "number") (rows_of found)) → IsRead (codes "number") 0 4294967295 found r
trial_number_read = number_read (codes "number") 0 4294967295 (omega arith)
