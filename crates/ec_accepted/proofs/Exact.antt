-- Code that is well typed by lines with more than what is live is well typed with exactly what is live, each with its type.
use Rattle.std.proofs.Common.{◌≡◌, ℕ, suc, ◌+◌, inl, inr, List, [], ◌∷◌, length, Some, refl, sym, ap, ◌∙◌}
use Rattle.std.proofs.Common.{subst, arith}
use Rattle.std.specs.Prelude.{slice_get}
use Rattle.ec_code.specs.declared.code.Line.{Line}
use Rattle.ec_code.specs.declared.code.Live.{Live}
use Rattle.ec_code.specs.declared.code.Op.{Op}
use Rattle.ec_code.specs.declared.code.Operation.{Operation}
use Rattle.ec_code.specs.declared.code.Parts.{Parts}
use Rattle.ec_code.specs.declared.code.Variable.{Variable}
use Rattle.ec_code.specs.Fine.{IsIn, Has, live_at, EachLeadsOn, FineCode}
use Rattle.ec_code.specs.Typing.{Declared}
use Rattle.ec_types.specs.declared.conform.static_type.StaticType.{StaticType}
use Rattle.ec_accepted.proofs.Covering.{covered}
use Rattle.ec_accepted.proofs.Dividing.{lead_on}
use Rattle.ec_accepted.proofs.Narrowed.{Narrowed, AllNarrowed, has_from_start}
use Rattle.ec_accepted.proofs.Restricting.{restricted}
use Rattle.ec_emission.specs.Lowered.{HasLines}
use Rattle.ec_emission.specs.Types.{Around, variable_type, behind, with_types, lines_of}
use Rattle.ec_accepted.specs.Wide.{ops_of, AgreeFrom, IsWide}
use Rattle.ec_code.specs.Live.{IsLive, IsLiveList}

module _ (w : Around) (ts : List StaticType) where
  abbrev shown : Variable → Live
  shown z = record { variable = z; of = variable_type w ts z }

  listed : (xs : List Variable) (x : Variable) (t : StaticType) → Has (with_types w ts xs) x t →
      IsIn x xs × (variable_type w ts x ≡ t)
  listed [] x t h = absurd h
  listed (y ∷ xs) x t (inl e) =
      let same : x ≡ y = ap (λ (l : Live). l.variable) e in
      let of : t ≡ variable_type w ts y = ap (λ (l : Live). l.of) e in
      (inl same, ap (variable_type w ts) same ∙ sym of)
  listed (y ∷ xs) x t (inr i) = let r = listed xs x t i in (inr r.0, r.1)

  listing : (xs : List Variable) (x : Variable) → IsIn x xs → Has (with_types w ts xs) x (variable_type w ts x)
  listing [] x i = absurd i
  listing (y ∷ xs) x (inl e) = inl (ap shown e)
  listing (y ∷ xs) x (inr i) = inr (listing xs x i)

module _ (w : Around) (code : List Op) (Held : (q : ℕ) (x : Variable) (t : StaticType) → Type 0)
    (covers : (q : ℕ) (x : Variable) → IsLive code q x → (t : StaticType) × Held q x t) where
  one_narrowed :
      (q : ℕ) (ts : List StaticType) (line : Line) (xs : List Variable) → slice_get code q ≡ Some line.op →
      IsLiveList code q xs → ((x : Variable) (t : StaticType) → Held q x t → Has line.live x t) →
      ((x : Variable) (t : StaticType) → Has line.live x t → variable_type w ts x ≡ t) →
      Narrowed code q line (record { op = line.op; live = with_types w ts xs })
  one_narrowed q ts line xs there is held agree = record {
    there = there;
    same = refl;
    only = λ x t h.
        let r = listed w ts xs x t h in
        let live : IsLive code q x = is.live x r.0 in
        let c = covers q x live in
        let has : Has line.live x c.0 = held x c.0 c.1 in
        (live, subst (λ z. Has line.live x z) (sym (agree x c.0 has) ∙ r.1) has);
    kept = λ x t live h.
        subst (λ z. Has (with_types w ts xs) x z) (agree x t h) (listing w ts xs x (is.all x live));
  }

  all_narrowed :
      (q : ℕ) (ts : List StaticType) (ls : List Line) (lists : List (List Variable)) → length lists ≡ length (ops_of ls) →
      ((k : ℕ) (o : Op) → slice_get (ops_of ls) k ≡ Some o → slice_get code (q + k) ≡ Some o) →
      ((k : ℕ) (xs : List Variable) → slice_get lists k ≡ Some xs → IsLiveList code (q + k) xs) →
      ((k : ℕ) (x : Variable) (t : StaticType) → Held (q + k) x t → Has (live_at ls k) x t) → AgreeFrom w ts ls →
      AllNarrowed code q ls (lines_of w ts (ops_of ls) lists)
  all_narrowed q ts [] lists count there live held agree = tt
  all_narrowed q ts (l ∷ ls) [] count there live held agree = absurd (omega arith)
  all_narrowed q ts (l ∷ ls) (xs ∷ lists) count there live held agree =
      let now : q + 0 ≡ q = omega arith in
      let fewer : length lists ≡ length (ops_of ls) = omega arith in (
        one_narrowed q ts l xs (subst (λ j. slice_get code j ≡ Some l.op) now (there 0 l.op refl))
            (subst (λ j. IsLiveList code j xs) now (live 0 xs refl))
            (λ x t h. held 0 x t (subst (λ j. Held j x t) (sym now) h)) agree.0,
        all_narrowed (suc q) (behind w ts l.op) ls lists fewer
            (λ k o e. subst (λ j. slice_get code j ≡ Some o) (later k) (there (suc k) o e))
            (λ k ys e. subst (λ j. IsLiveList code j ys) (later k) (live (suc k) ys e))
            (λ k x t h. held (suc k) x t (subst (λ j. Held j x t) (sym (later k)) h)) agree.1,
      )
    where
      later : (k : ℕ) → q + suc k ≡ suc q + k
      later k = omega arith

after_zero : (k : ℕ) → k ≡ 0 + k
after_zero k = omega arith

module _ {d : Declared} {p : Parts} {number : ℕ} {o : Operation} {w : Around} {ops : List Op} {lines : List Line} where
  -- lines with exactly what is live are narrower than the wide ones
  exact : IsWide d p number o w ops lines → HasLines w ops o.code → AllNarrowed ops 0 lines o.code
  exact wide has =
      let count : length has.lists ≡ length (ops_of lines) = has.count ∙ ap length (sym wide.are) in
      let there : (k : ℕ) (x : Op) → slice_get (ops_of lines) k ≡ Some x → slice_get ops k ≡ Some x =
      λ k x e. subst (λ z. slice_get z k ≡ Some x) wide.are e in
      let from_start : (k : ℕ) → k ≡ 0 + k = λ k. after_zero k in
      let covers : (q : ℕ) (x : Variable) → IsLive ops q x → (t : StaticType) × Has (live_at lines q) x t =
      λ q x live. covered d p number o lines wide.typed (subst (λ z. IsLive z q x) (sym wide.are) live) in
      let narrowed : AllNarrowed ops 0 lines (lines_of w [] (ops_of lines) has.lists) =
      all_narrowed w ops (λ q x t. Has (live_at lines q) x t) covers 0 [] lines has.lists count
      (λ k x e. subst (λ j. slice_get ops j ≡ Some x) (from_start k) (there k x e))
      (λ k xs e. subst (λ j. IsLiveList ops j xs) (from_start k) (has.live k xs e))
      (λ k x t h. subst (λ j. Has (live_at lines j) x t) (sym (from_start k)) h) wide.agree in
      subst (AllNarrowed ops 0 lines) (ap (λ z. lines_of w [] z has.lists) wide.are ∙ sym has.lines) narrowed

  pub fine_code : IsWide d p number o w ops lines → HasLines w ops o.code → FineCode d p number o 0 o.code
  fine_code wide has = restricted d p number o ops lines (exact wide has) wide.typed

  pub each_leads_on : IsWide d p number o w ops lines → HasLines w ops o.code → EachLeadsOn d p number o o.code
  each_leads_on wide has = lead_on d p number o ops lines o.code (exact wide has) wide.divisions

  pub held :
      IsWide d p number o w ops lines → HasLines w ops o.code → (place : ℕ) (x : Variable) (t : StaticType) →
      Has (live_at o.code place) x t → Has (live_at lines place) x t
  held wide has place x t live = (has_from_start lines o.code (exact wide has) place x t live).1
