-- What the call promises of each status, from what it comes to.
use Rattle.std.proofs.Common.{◌≡◌, ◌⊎◌, inl, inr, ⊎_elim, ℕ, List, ◌++◌, Some, None, refl, sym, ap, subst, ◌∙◌}
use Rattle.ec_tool.specs.Asked.{file_name, AreRead, AreMade, HasRead}
use Rattle.ec_tool.specs.Lines.{usage_line}
use Rattle.ec_tool.specs.declared.file.FileOf.{FileOf}
use Rattle.ec_tool.specs.Promises.{IsRunStatus, EndsWith, HasReadFault, IsNoSource, IsNoInput, CommandEnded, HasAccepted, IsRun}
use Rattle.ec_tool.specs.Promises.{IsAccepted, NoneRisen}
use Rattle.ec_tool.specs.Promises.IsRunStatus.{Finishes, Fills}
use Rattle.ec_tool.specs.Writing.{ComesOut}
use Rattle.ec_tool.specs.Verdict.{Judged, Call, Verdict, Came}
use Rattle.ec_tool.specs.Verdict.Verdict.{NoCommand, ReadFailed, IsJudged}
use Rattle.ec_tool.specs.Writing.ComesOut.{Written, Broken}
use Rattle.ec_tool.specs.Verdict.Came.{NoMemory, Answered}
use Rattle.ec_tool.proofs.Judging.{source_refused, input_refused, by_files, has_finished, has_ended, full_run, ends_of}
use Rattle.ec_tool.proofs.Statuses.IsByFiles.{RefusesSource, RefusesInput}
use Rattle.ec_tool.proofs.Statuses.{IsTold, IsOfFiles, files_apart, run_apart}
use Rattle.ec_inputs.specs.Words.{CommandWords, WordsOf}
use Rattle.ec_inputs.specs.Words.{CommandWords as command}
use Rattle.ec_outside.specs.Fault.{HasRisen}
use Rattle.ec_report.specs.declared.status.Status.{Status}
use Rattle.ec_report.specs.declared.status.Status.TheVariants as statuses

-- ---- verdicts

module _ (Told : Type 0) (call : Call) where
  verdict_told : {s : Status} {t : List ℕ} → Verdict Told call s t → IsTold s
  verdict_told (NoCommand w q n) = record { not_write = λ e. cc; not_memory = λ e. cc }
  verdict_told (ReadFailed asked file w h n) = record { not_write = λ e. cc; not_memory = λ e. cc }
  verdict_told (IsJudged read s t q j) = (files_apart (by_files read.asked read.held call.net call.net_after j)).told

  verdict_usage : {s : Status} {t : List ℕ} → Verdict Told call s t → s ≡ statuses.Usage → (WordsOf call.words ≡ None) × (t ≡ usage_line)
  verdict_usage (NoCommand w q n) e = (w, refl)
  verdict_usage (ReadFailed asked file w h n) e = cc
  verdict_usage (IsJudged read s t q j) e = absurd ((files_apart (by_files read.asked read.held call.net call.net_after j)).not_usage e)

  verdict_none : {s : Status} {t : List ℕ} → Verdict Told call s t → WordsOf call.words ≡ None → s ≡ statuses.Usage
  verdict_none (NoCommand w q n) e = refl
  verdict_none (ReadFailed asked file w h n) e = cc
  verdict_none (IsJudged read s t q j) e = let w = read.words_are in cc

  verdict_fault : {s : Status} {t : List ℕ} → Verdict Told call s t → s ≡ statuses.ReadFault →
      HasReadFault Told call.words call.content call.kept call.faults call.faults_after t
  verdict_fault (NoCommand w q n) e = cc
  verdict_fault (ReadFailed asked file w h n) e =
      record { asked = asked; file = file; words_are = w; stops = h; text_is = refl }
  verdict_fault (IsJudged read s t q j) e = absurd ((files_apart (by_files read.asked read.held call.net call.net_after j)).not_read e)

  -- a trial names no file at which reading may stop
  verdict_trial : {s : Status} {t : List ℕ} → Verdict Told call s t → (number : ℕ) → WordsOf call.words ≡ Some (command.Trial number) →
      s ≡ statuses.ReadFault → ⊥
  verdict_trial (NoCommand w q n) number e is = cc
  verdict_trial (ReadFailed asked file w h n) number e is =
      let same : asked ≡ command.Trial number = cc in
      let named : file_name (command.Trial number) file ≡ Some h.name =
      subst (λ (k : CommandWords). file_name k file ≡ Some h.name) same h.name_is in
      let bad : ⊥ = cc in absurd bad
  verdict_trial (IsJudged read s t q j) number e is = (files_apart (by_files read.asked read.held call.net call.net_after j)).not_read is

  -- no count has risen, or a file wasn't read
  verdict_reads : {s : Status} {t : List ℕ} → Verdict Told call s t → (call.faults_after ≡ call.faults) ⊎ (s ≡ statuses.ReadFault)
  verdict_reads (NoCommand w q n) = inl q
  verdict_reads (ReadFailed asked file w h n) = inr refl
  verdict_reads (IsJudged read s t q j) = inl q

  -- files were read, and judged to this status and this text
  record HasJudged (s : Status) (t : List ℕ) : Type 0 where
    read : HasRead Told call.words call.content
    judged : Judged read.asked read.held call.net call.net_after s t

  verdict_judged : {s : Status} {t : List ℕ} → Verdict Told call s t → IsOfFiles s → HasJudged s t
  verdict_judged (NoCommand w q n) f = absurd (f.not_usage refl)
  verdict_judged (ReadFailed asked file w h n) f = absurd (f.not_read refl)
  verdict_judged (IsJudged read s t q j) f = record { read = read; judged = j }

  same_words : (a b : CommandWords) → WordsOf call.words ≡ Some a → WordsOf call.words ≡ Some b → a ≡ b
  same_words a b e f = cc

  -- the files that the accepted command names were read, or the texts that it makes are these, and they are judged
  pub record IsReadFor (asked : CommandWords) (s : Status) (t : List ℕ) : Type 0 where
    pub held : FileOf → List ℕ
    pub are_read : AreRead call.content asked held
    pub are_made : AreMade asked held
    pub judged : Judged asked held call.net call.net_after s t

  pub verdict_read : {s : Status} {t : List ℕ} → Verdict Told call s t → Told → (a : IsAccepted call.words call.content) →
      NoneRisen a.asked call.faults call.faults_after → IsReadFor a.asked s t
  verdict_read (NoCommand w q n) told a quiet = let v = a.words_are in cc
  verdict_read (ReadFailed asked file w h n) told a quiet =
      let named = subst (λ (k : CommandWords). file_name k file ≡ Some h.name) (same_words asked a.asked w a.words_are) h.name_is in
      absurd (quiet file h.name named h.risen)
  verdict_read (IsJudged read s t q j) told a quiet =
      let e : read.asked ≡ a.asked = same_words read.asked a.asked read.words_are a.words_are in
      record {
        held = read.held;
        are_read = subst (λ (k : CommandWords). AreRead call.content k read.held) e (read.are_read told);
        are_made = subst (λ (k : CommandWords). AreMade k read.held) e read.are_made;
        judged = subst (λ (k : CommandWords). Judged k read.held call.net call.net_after s t) e j;
      }

  verdict_accepted : {s : Status} {t : List ℕ} → Verdict Told call s t → Told → (a : IsAccepted call.words call.content) →
      NoneRisen a.asked call.faults call.faults_after → EndsWith a.asked s
  verdict_accepted {s} {t} v told a quiet =
      let read = verdict_read v told a quiet in
      ends_of read.held a.held call.net call.net_after call.content a.asked read.are_read read.are_made a.are_read a.are_made
      a.are_accepted s t read.judged

-- ---- the call

module _ (Told TakenTold : Type 0) (call : Call) (taken taken' : List ℕ) (count count' : ℕ) where
  abbrev Ends : Status → Type 0
  Ends r = Came Told TakenTold call taken taken' count count' r

  -- a verdict of this status, and its whole text was written
  record Said (s : Status) : Type 0 where
    text : List ℕ
    verdict : Verdict Told call s text
    written : TakenTold → taken' ≡ taken ++ text

  said_by : {st r : Status} {tx : List ℕ} → Verdict Told call st tx → ComesOut TakenTold taken taken' count count' st tx r →
      (s : Status) → IsTold s → r ≡ s → Said s
  said_by {tx = tx} v (Written w k) s told e =
      record { text = tx; verdict = subst (λ (x : Status). Verdict Told call x tx) e v; written = w }
  said_by v (Broken w h) s told e = absurd (told.not_write (sym e))

  said_of : {r : Status} → Ends r → (s : Status) → IsTold s → r ≡ s → Said s
  said_of (NoMemory m k) s told e = absurd (told.not_memory (sym e))
  said_of (Answered st tx r v a) s told e = said_by v a s told e

  -- what was answered is the verdict's, or the sink has met a fault
  result_is : {st r : Status} {tx : List ℕ} → ComesOut TakenTold taken taken' count count' st tx r →
      (r ≡ st) ⊎ ((r ≡ statuses.WriteFault) × HasRisen count count')
  result_is (Written w k) = inl refl
  result_is (Broken w h) = inr (refl, h)

  memory : {r : Status} → Ends r → r ≡ statuses.NoMemory → (taken' ≡ taken) × (count' ≡ count)
  memory (NoMemory m k) e = (m, k)
  memory (Answered st tx r v a) e = ⊎_elim
      (λ (i : r ≡ st). absurd ((verdict_told Told call v).not_memory (sym i ∙ e)))
      (λ (i : (r ≡ statuses.WriteFault) × HasRisen count count'). absurd
      (let k : statuses.WriteFault ≡ statuses.NoMemory = sym i.0 ∙ e in cc))
      (result_is a)

  broken : {r : Status} → Ends r → r ≡ statuses.WriteFault → HasRisen count count'
  broken (NoMemory m k) e = cc
  broken (Answered st tx r v a) e = ⊎_elim
      (λ (i : r ≡ st). absurd ((verdict_told Told call v).not_write (sym i ∙ e)))
      (λ (i : (r ≡ statuses.WriteFault) × HasRisen count count'). i.1)
      (result_is a)

  no_command : {r : Status} → Ends r → WordsOf call.words ≡ None →
      (r ≡ statuses.Usage) ⊎ ((r ≡ statuses.WriteFault) ⊎ (r ≡ statuses.NoMemory))
  no_command (NoMemory m k) w = inr (inr refl)
  no_command (Answered st tx r v a) w = ⊎_elim
      (λ (i : r ≡ st). inl (i ∙ verdict_none Told call v w))
      (λ (i : (r ≡ statuses.WriteFault) × HasRisen count count'). inr (inl i.0))
      (result_is a)

  reads : {r : Status} → Ends r →
      (call.faults_after ≡ call.faults) ⊎ ((r ≡ statuses.ReadFault) ⊎ ((r ≡ statuses.WriteFault) ⊎ (r ≡ statuses.NoMemory)))
  reads (NoMemory m k) = inr (inr (inr refl))
  reads (Answered st tx r v a) = ⊎_elim
      (λ (i : r ≡ st). ⊎_elim (λ (q : call.faults_after ≡ call.faults). inl q) (λ (f : st ≡ statuses.ReadFault). inr (inl (i ∙ f)))
      (verdict_reads Told call v))
      (λ (i : (r ≡ statuses.WriteFault) × HasRisen count count'). inr (inr (inl i.0)))
      (result_is a)

  trial : {r : Status} → Ends r → (number : ℕ) → WordsOf call.words ≡ Some (command.Trial number) → r ≡ statuses.ReadFault → ⊥
  trial (NoMemory m k) number w e = let bad : ⊥ = cc in bad
  trial (Answered st tx r v a) number w e = ⊎_elim
      (λ (i : r ≡ st). verdict_trial Told call v number w (sym i ∙ e))
      (λ (i : (r ≡ statuses.WriteFault) × HasRisen count count'). let k : statuses.WriteFault ≡ statuses.ReadFault = sym i.0 ∙ e in cc)
      (result_is a)

  complete : {r : Status} → Ends r → Told → (a : IsAccepted call.words call.content) →
      NoneRisen a.asked call.faults call.faults_after → ¬ HasRisen count count' →
      EndsWith a.asked r ⊎ (r ≡ statuses.NoMemory)
  complete (NoMemory m k) told a quiet calm = inr refl
  complete (Answered st tx r v x) told a quiet calm = ⊎_elim
      (λ (i : r ≡ st). inl (subst (λ (k : Status). EndsWith a.asked k) (sym i) (verdict_accepted Told call v told a quiet)))
      (λ (i : (r ≡ statuses.WriteFault) × HasRisen count count'). absurd (calm i.1))
      (result_is x)

  -- a verdict of files that were judged, and its whole text was written
  record SaidOfFiles (s : Status) : Type 0 where
    text : List ℕ
    judged : HasJudged Told call s text
    written : TakenTold → taken' ≡ taken ++ text

  files_of : {r : Status} → Ends r → (s : Status) → IsOfFiles s → r ≡ s → SaidOfFiles s
  files_of c s f e =
      let said = said_of c s f.told e in
      record { text = said.text; judged = verdict_judged Told call said.verdict f; written = said.written }

-- ---- the clauses

pub usage_of : {Told TakenTold : Type 0} {call : Call} {taken taken' : List ℕ} {count count' : ℕ} {r : Status} →
    Came Told TakenTold call taken taken' count count' r →
    r ≡ statuses.Usage → (WordsOf call.words ≡ None) × (TakenTold → taken' ≡ taken ++ usage_line)
usage_of {Told} {TakenTold} {call} {taken} {taken'} {count} {count'} c e =
    let said = said_of Told TakenTold call taken taken' count count' c statuses.Usage
    (record { not_write = λ k. cc; not_memory = λ k. cc }) e in
    let p = verdict_usage Told call said.verdict refl in
    (p.0, λ k. said.written k ∙ ap (λ (x : List ℕ). taken ++ x) p.1)

pub no_command_of : {Told TakenTold : Type 0} {call : Call} {taken taken' : List ℕ} {count count' : ℕ} {r : Status} →
    Came Told TakenTold call taken taken' count count' r →
    WordsOf call.words ≡ None → (r ≡ statuses.Usage) ⊎ ((r ≡ statuses.WriteFault) ⊎ (r ≡ statuses.NoMemory))
no_command_of {Told} {TakenTold} {call} {taken} {taken'} {count} {count'} c w = no_command Told TakenTold call taken taken' count count' c w

pub read_fault_of : {Told TakenTold : Type 0} {call : Call} {taken taken' : List ℕ} {count count' : ℕ} {r : Status} →
    Came Told TakenTold call taken taken' count count' r →
    r ≡ statuses.ReadFault → (text : List ℕ) × HasReadFault Told call.words call.content call.kept call.faults call.faults_after text ×
    (TakenTold → taken' ≡ taken ++ text)
read_fault_of {Told} {TakenTold} {call} {taken} {taken'} {count} {count'} c e =
    let said = said_of Told TakenTold call taken taken' count count' c statuses.ReadFault
    (record { not_write = λ k. cc; not_memory = λ k. cc }) e in
    (said.text, verdict_fault Told call said.verdict refl, said.written)

pub reads_of : {Told TakenTold : Type 0} {call : Call} {taken taken' : List ℕ} {count count' : ℕ} {r : Status} →
    Came Told TakenTold call taken taken' count count' r →
    (call.faults_after ≡ call.faults) ⊎ ((r ≡ statuses.ReadFault) ⊎ ((r ≡ statuses.WriteFault) ⊎ (r ≡ statuses.NoMemory)))
reads_of {Told} {TakenTold} {call} {taken} {taken'} {count} {count'} c = reads Told TakenTold call taken taken' count count' c

pub no_read_of : {Told TakenTold : Type 0} {call : Call} {taken taken' : List ℕ} {count count' : ℕ} {r : Status} →
    Came Told TakenTold call taken taken' count count' r →
    (number : ℕ) → WordsOf call.words ≡ Some (command.Trial number) → ¬ (r ≡ statuses.ReadFault)
no_read_of {Told} {TakenTold} {call} {taken} {taken'} {count} {count'} c = trial Told TakenTold call taken taken' count count' c

pub write_fault_of : {Told TakenTold : Type 0} {call : Call} {taken taken' : List ℕ} {count count' : ℕ} {r : Status} →
    Came Told TakenTold call taken taken' count count' r →
    r ≡ statuses.WriteFault → HasRisen count count'
write_fault_of {Told} {TakenTold} {call} {taken} {taken'} {count} {count'} c e = broken Told TakenTold call taken taken' count count' c e

pub no_memory_of : {Told TakenTold : Type 0} {call : Call} {taken taken' : List ℕ} {count count' : ℕ} {r : Status} →
    Came Told TakenTold call taken taken' count count' r →
    r ≡ statuses.NoMemory → (taken' ≡ taken) × (count' ≡ count)
no_memory_of {Told} {TakenTold} {call} {taken} {taken'} {count} {count'} c e = memory Told TakenTold call taken taken' count count' c e

pub source_refused_of : {Told TakenTold : Type 0} {call : Call} {taken taken' : List ℕ} {count count' : ℕ} {r : Status} →
    Came Told TakenTold call taken taken' count count' r →
    r ≡ statuses.SourceRefused →
    (text : List ℕ) × (read : HasRead Told call.words call.content) × IsNoSource read.held text
    × (call.net_after ≡ call.net) ×
    (TakenTold → taken' ≡ taken ++ text)
source_refused_of {Told} {TakenTold} {call} {taken} {taken'} {count} {count'} c e =
    let f = files_of Told TakenTold call taken taken' count count' c statuses.SourceRefused (files_apart RefusesSource) e in
    let read = f.judged.read in
    let p = source_refused read.asked read.held call.net call.net_after f.judged.judged refl in
    (f.text, read, p.0, p.1, f.written)

pub input_refused_of : {Told TakenTold : Type 0} {call : Call} {taken taken' : List ℕ} {count count' : ℕ} {r : Status} →
    Came Told TakenTold call taken taken' count count' r →
    r ≡ statuses.InputRefused →
    (text : List ℕ) × (read : HasRead Told call.words call.content) × IsNoInput read.asked read.held text
    × (call.net_after ≡ call.net) ×
    (TakenTold → taken' ≡ taken ++ text)
input_refused_of {Told} {TakenTold} {call} {taken} {taken'} {count} {count'} c e =
    let f = files_of Told TakenTold call taken taken' count count' c statuses.InputRefused (files_apart RefusesInput) e in
    let read = f.judged.read in
    let p = input_refused read.asked read.held call.net call.net_after f.judged.judged refl in
    (f.text, read, p.0, p.1, f.written)

pub finished_of : {Told TakenTold : Type 0} {call : Call} {taken taken' : List ℕ} {count count' : ℕ} {r : Status} →
    Came Told TakenTold call taken taken' count count' r →
    r ≡ statuses.Finished → (text : List ℕ) × (read : HasRead Told call.words call.content) ×
    (CommandEnded read.asked read.held call.net call.net_after statuses.Finished text ⊎ HasAccepted read.asked read.held call.net
    call.net_after text) ×
    (TakenTold → taken' ≡ taken ++ text)
finished_of {Told} {TakenTold} {call} {taken} {taken'} {count} {count'} c e =
    let f = files_of Told TakenTold call taken taken' count count' c statuses.Finished ((run_apart Finishes).files) e in
    let read = f.judged.read in
    (f.text, read, has_finished read.asked read.held call.net call.net_after statuses.Finished f.text f.judged.judged Finishes, f.written)

-- a status of a run, a plain meaning or a trial, other than that of an accepted check
pub ended_of : {Told TakenTold : Type 0} {call : Call} {taken taken' : List ℕ} {count count' : ℕ} {r : Status} →
    Came Told TakenTold call taken taken' count count' r →
    (s : Status) → IsRunStatus s → (s ≡ statuses.Finished → ⊥) → r ≡ s → (text : List ℕ) × (read : HasRead Told call.words call.content) ×
    CommandEnded read.asked read.held call.net call.net_after s text × (TakenTold → taken' ≡ taken ++ text)
ended_of {Told} {TakenTold} {call} {taken} {taken'} {count} {count'} c s is not e =
    let f = files_of Told TakenTold call taken taken' count count' c s ((run_apart is).files) e in
    let read = f.judged.read in
    (f.text, read, has_ended read.asked read.held call.net call.net_after s f.text f.judged.judged is not, f.written)

pub full_of : {Told TakenTold : Type 0} {call : Call} {taken taken' : List ℕ} {count count' : ℕ} {r : Status} →
    Came Told TakenTold call taken taken' count count' r →
    r ≡ statuses.Full → (text : List ℕ) × (read : HasRead Told call.words call.content) × IsRun read.asked ×
    CommandEnded read.asked read.held call.net call.net_after statuses.Full text × (TakenTold → taken' ≡ taken ++ text)
full_of {Told} {TakenTold} {call} {taken} {taken'} {count} {count'} c e =
    let f = files_of Told TakenTold call taken taken' count count' c statuses.Full ((run_apart Fills).files) e in
    let read = f.judged.read in
    let h = has_ended read.asked read.held call.net call.net_after statuses.Full f.text f.judged.judged Fills (λ k. cc) in
    (f.text, read, full_run read.asked read.held call.net call.net_after statuses.Full f.text h refl, h, f.written)

pub complete_of : {Told TakenTold : Type 0} {call : Call} {taken taken' : List ℕ} {count count' : ℕ} {r : Status} →
    Came Told TakenTold call taken taken' count count' r →
    Told → (a : IsAccepted call.words call.content) → NoneRisen a.asked call.faults call.faults_after → ¬ HasRisen count count' →
    EndsWith a.asked r ⊎ (r ≡ statuses.NoMemory)
complete_of {Told} {TakenTold} {call} {taken} {taken'} {count} {count'} c told a quiet calm =
    complete Told TakenTold call taken taken' count count' c told a quiet calm
