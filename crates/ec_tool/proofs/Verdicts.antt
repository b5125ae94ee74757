-- From what was read and judged to the verdict of the call.
use Rattle.std.proofs.Common.{◌≡◌, ℕ, List, Option, Some, None, refl, sym, ap, ◌∙◌, subst}
use Rattle.std.specs.Prelude.{option_map, IsSome}
use Rattle.ec_tool.specs.Asked.{name_in, file_name, file_limit, AreRead, AreMade, EachBefore, OthersStay, StopsAt}
use Rattle.ec_tool.specs.declared.file.FileOf.{FileOf}
use Rattle.ec_tool.specs.declared.file.FileOf.TheVariants.{Source, Nodes, Schedule}
use Rattle.ec_inputs.specs.declared.words.Command.{Command}
use Rattle.ec_inputs.specs.Words.{RunWords, CheckWords, WordsOf, command_in}
use Rattle.ec_inputs.specs.Words.{CommandWords as command}
use Rattle.ec_outside.specs.Fault.{HasRisen}
use Rattle.ec_outside.specs.Whole.{IsWhole}
use Rattle.ec_tool.specs.Reading.{AreAllRead, only}
use Rattle.ec_tool.specs.Taking.{asked_of}
use Rattle.ec_tool.specs.declared.take.Work.{Work}
use Rattle.ec_tool.specs.declared.take.Work.TheVariants.{Run, Mean}

-- ---- words

module _ (words : List (List ℕ)) (found : Option Command) (read : option_map command_in found ≡ WordsOf words) where
  pub words_of_some : (c : Command) → found ≡ Some c → WordsOf words ≡ Some (command_in c)
  words_of_some c e = sym read ∙ ap (λ (o : Option Command). option_map command_in o) e

  pub words_of_none : found ≡ None → WordsOf words ≡ None
  words_of_none e = sym read ∙ ap (λ (o : Option Command). option_map command_in o) e

-- ---- files

-- each file of a run or a plain meaning has a name
named : (work : Work) (words : RunWords) (file : FileOf) → file_name (asked_of work words) file ≡ Some (name_in words file)
named Run words file = refl
named Mean words file = refl

each_read : (content : List ℕ → Option (List ℕ)) (words : RunWords) (held : FileOf → List ℕ) → AreAllRead content words held →
    (file : FileOf) →
    IsWhole (content (name_in words file)) file_limit (held file)
each_read content words held r Source = r.source_is
each_read content words held r Nodes = r.nodes_are
each_read content words held r Schedule = r.schedule_is

pub all_read : (content : List ℕ → Option (List ℕ)) (work : Work) (words : RunWords) (held : FileOf → List ℕ) →
    AreAllRead content words held →
    AreRead content (asked_of work words) held
all_read content work words held r file name e =
    let same : Some (name_in words file) ≡ Some name = sym (named work words file) ∙ e in
    let is : name_in words file ≡ name = cc in
    subst (λ (n : List ℕ). IsWhole (content n) file_limit (held file)) is (each_read content words held r file)

-- a command whose files are read makes no text
pub none_made : (work : Work) (words : RunWords) (held : FileOf → List ℕ) → AreMade (asked_of work words) held
none_made Run words held = tt
none_made Mean words held = tt

-- a trial reads no file
pub none_read : (content : List ℕ → Option (List ℕ)) (number : ℕ) (held : FileOf → List ℕ) → AreRead content (command.Trial number) held
none_read content number held file name e = let bad : ⊥ = cc in absurd bad

-- a check reads its source alone
pub source_read : (content : List ℕ → Option (List ℕ)) (check : CheckWords) (source : List ℕ) →
    IsWhole (content check.source) file_limit source →
    AreRead content (command.Check check) (only source)
source_read content check source r Source name e =
    let is : check.source ≡ name = cc in
    subst (λ (n : List ℕ). IsWhole (content n) file_limit source) is r
source_read content check source r Nodes name e = cc
source_read content check source r Schedule name e = cc

-- ---- a read that failed

-- what is there under the name among the words is there under the name that the command has
module _ (content : List ℕ → Option (List ℕ)) (work : Work) (words : RunWords) where
  there_by_name : (file : FileOf) → IsSome (content (name_in words file)) → (name : List ℕ) →
      file_name (asked_of work words) file ≡ Some name →
      IsSome (content name)
  there_by_name file is name e =
      let same : Some (name_in words file) ≡ Some name = sym (named work words file) ∙ e in
      let alike : name_in words file ≡ name = cc in
      subst (λ (n : List ℕ). IsSome (content n)) alike is

  each_there : (file : FileOf) → EachBefore file (λ other. IsSome (content (name_in words other))) →
      EachBefore file (λ other. (name : List ℕ) → file_name (asked_of work words) other ≡ Some name → IsSome (content name))
  each_there Source e = tt
  each_there Nodes e = there_by_name Source e
  each_there Schedule e = (there_by_name Source e.0, there_by_name Nodes e.1)

pub stops : {Told : Type 0} {content : List ℕ → Option (List ℕ)} {kept : List (List ℕ)} {faults faults' : List ℕ → ℕ}
    (work : Work) (words : RunWords) (file : FileOf) →
    HasRisen (faults (name_in words file)) (faults' (name_in words file)) → OthersStay kept faults faults' (name_in words file) →
    (Told → EachBefore file (λ other. IsSome (content (name_in words other)))) →
    StopsAt Told content kept faults faults' (asked_of work words) file
stops {content} work words file risen stay earlier = record {
  name = name_in words file;
  name_is = named work words file;
  risen = risen;
  others_stay = stay;
  earlier = λ told. each_there content work words file (earlier told);
}
