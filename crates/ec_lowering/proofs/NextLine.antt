-- Lines, one after another.
use Rattle.std.proofs.Common.{◌≡◌, ℕ, ◌+◌, ◌≤◌, List, [], ◌∷◌, ◌++◌, length, drop, Some, sym, ap, ap₂, ◌∙◌}
use Rattle.std.proofs.Common.{append_assoc, append-nil}
use Rattle.std.specs.Prelude.{slice_get}
use Rattle.std.proofs.lemmas.List.{drop_all}
use Rattle.ec_base.proofs.Lists.{drop_at}
use Rattle.ec_code.specs.declared.code.Line.{Line}
use Rattle.ec_code.specs.declared.code.Live.{Live}
use Rattle.ec_code.specs.declared.code.Op.{Op}
use Rattle.ec_code.specs.declared.code.Variable.{Variable}
use Rattle.ec_types.specs.declared.conform.static_type.StaticType.{StaticType}
use Rattle.ec_emission.specs.Types.{Around, behind, with_types, lines_of}

module _ (w : Around) (ops : List Op) (lists : List (List Variable)) where
  -- the lines from a place on
  abbrev rest : List StaticType → ℕ → List Line
  rest ts n = lines_of w ts (drop n ops) (drop n lists)

  -- the first of them
  first_line : (ts : List StaticType) (n : ℕ) (o : Op) (xs : List Variable) → slice_get ops n ≡ Some o →
      slice_get lists n ≡ Some xs → rest ts n ≡ record { op = o; live = with_types w ts xs } ∷ rest (behind w ts o) (n + 1)
  first_line ts n o xs i j = ap₂ (λ os ls. lines_of w ts os ls) (drop_at ops n o i) (drop_at lists n xs j)

  -- one line more, and the rest behind it
  pub next_line : (old new : List Line) (ts us : List StaticType) (n : ℕ) (o : Op) (xs : List Variable) (live : List Live) →
      slice_get ops n ≡ Some o → slice_get lists n ≡ Some xs → live ≡ with_types w ts xs → us ≡ behind w ts o →
      new ≡ old ++ record { op = o; live = live } ∷ [] → old ++ rest ts n ≡ lines_of w [] ops lists →
      new ++ rest us (n + 1) ≡ lines_of w [] ops lists
  next_line old new ts us n o xs live i j l b e before =
      let line : Line = record { op = o; live = with_types w ts xs } in
      let f : new ≡ old ++ line ∷ [] = e ∙ ap (λ (ls : List Live). old ++ record { op = o; live = ls } ∷ []) l in
      ap₂ (λ (ls : List Line) (vs : List StaticType). ls ++ rest vs (n + 1)) f b
      ∙ append_assoc old (line ∷ []) (rest (behind w ts o) (n + 1))
      ∙ ap (λ (ls : List Line). old ++ ls) (sym (first_line ts n o xs i j))
      ∙ before

  -- none is left behind the last step
  pub all_lines : (made : List Line) (ts : List StaticType) (n : ℕ) → length ops ≤ n →
      made ++ rest ts n ≡ lines_of w [] ops lists → made ≡ lines_of w [] ops lists
  all_lines made ts n h e =
      sym (append-nil made) ∙ ap (λ (os : List Op). made ++ lines_of w ts os (drop n lists)) (sym (drop_all n ops h)) ∙ e
