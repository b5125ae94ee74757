-- New objects: of a constructor, with the values that it captures, or of a class, with arguments.
use Rattle.std.proofs.Common.{◌≡◌, ℕ, zero, suc, ◌==◌, ◌&&◌, ◌||◌, Bool, true, false, List, [], ◌∷◌, ◌++◌, map, take}
use Rattle.std.proofs.Common.{length, Option, Some, None}
use Rattle.std.proofs.Common.{refl, sym, ap, ◌∙◌, subst, inl, inr, append-nil, eqb-true}
use Rattle.std.specs.Prelude.{slice_get}
use Rattle.ec_check.specs.Numbers.{Number, Constructed, Created}
use Rattle.ec_check.specs.WellTyped.{Typed, are_captured, conforms_if, go_in, goes_in, parameters_of_class, some_class}
use Rattle.ec_check.specs.WellTyped.{type_at as place_type, typed_if}
use Rattle.ec_code.specs.declared.code.Op.{Op}
use Rattle.ec_code.specs.Fine.{FineStop, FitAll, IsIn}
use Rattle.ec_code.specs.Typing.{boolean}
use Rattle.ec_types.specs.Table.{conforms}
use Rattle.ec_types.specs.Types.{named}
use Rattle.ec_types.specs.declared.conform.static_type.StaticType.{StaticType}
use Rattle.ec_types.specs.Known.{IsOfProgram}
use Rattle.ec_core.specs.declared.Class.{Class}
use Rattle.ec_core.specs.declared.Place.{Place}
use Rattle.ec_emission.proofs.Forms.{both_true, not_true}
use Rattle.ec_emission.specs.Expressions.{Emitted, all_code, all_fit, fetch_all, new_object, stops_at}
use Rattle.ec_accepted.proofs.FinenessForms.{AllWork, all_lead, by_its_code}
use Rattle.ec_accepted.proofs.Frames.{Held}
use Rattle.ec_accepted.proofs.Pieces.{FitsAs, go_on}
use Rattle.ec_accepted.proofs.Places.{captured_lead, captured_length}
use Rattle.ec_accepted.proofs.Shown.{Goes, Shown, works}
use Rattle.ec_accepted.proofs.Standing.{Stand, Known, KnownClass, Stated, AllStated, EachOfProgram, setting, site, types_in}
use Rattle.ec_accepted.proofs.Standing.{each_fits}
use Rattle.ec_accepted.proofs.Stopping.{above, rests}
use Rattle.ec_emission.specs.Lowered.{class_declared, declared_of, field_types_of}
use Rattle.ec_meaning.specs.Programs.{class_number}
use Rattle.ec_world.specs.declared.stop.Stop.TheVariants as stop

-- ---- lists

-- one of these classes that passes a test
record Passing (test : Class → Bool) (cs : List Class) : Type 0 where
  pub class : Class
  pub there : IsIn class cs
  pub passes : test class ≡ true

passing : (test : Class → Bool) (cs : List Class) → some_class test cs ≡ true → Passing test cs
passing test [] e = not_true e
passing test (k ∷ ks) e = by_test (test k) refl e (λ f. passing test ks f)
  where
    by_test : (b : Bool) → test k ≡ b → b || some_class test ks ≡ true → (some_class test ks ≡ true → Passing test ks) →
        Passing test (k ∷ ks)
    by_test true t f later = record { class = k; there = inl refl; passes = t }
    by_test false t f later =
        let p = later f in record { class = p.class; there = inr p.there; passes = p.passes }

pub within_taken : (n : ℕ) (ts : List StaticType) (k : ℕ) (t : StaticType) → slice_get (take n ts) k ≡ Some t →
    slice_get ts k ≡ Some t
within_taken zero ts k t e = cc
within_taken (suc n) [] k t e = cc
within_taken (suc n) (s ∷ ts) zero t e = e
within_taken (suc n) (s ∷ ts) (suc k) t e = within_taken n ts k t e

-- ---- arguments

module _ (c : Stand) where
  abbrev AllFit : List StaticType → List StaticType → Type 0
  AllFit ts wanted = FitAll (declared_of c.source) c.parts ts wanted

  -- values, by their types, for places of these types
  pub record Arguments (wanted : List StaticType) (es : List Emitted) : Type 0 where
    pub types : List StaticType
    pub work : AllWork (setting c) es types
    pub fit : AllFit types wanted
    pub count : length types ≡ length es

  fit_themselves :
      (ts : List StaticType) → ((t : StaticType) → IsOfProgram (types_in c) t → FitsAs (setting c) t t) →
      EachOfProgram (types_in c) ts → AllFit ts ts
  fit_themselves [] fits known = tt
  fit_themselves (t ∷ ts) fits known = (fits t (known 0 t refl), fit_themselves ts fits (λ n s e. known (suc n) s e))

  type_given : (wanted : StaticType) (o : Option StaticType) → conforms_if c.source.table o wanted ≡ true →
      (t : StaticType) × (o ≡ Some t) × (conforms c.source.table t wanted ≡ true)
  type_given wanted None e = not_true e
  type_given wanted (Some t) e = (t, refl, e)

module _ (c : Stand) (Right : Number → Type 0) (known : Known c Right) where
  pub arguments :
      (wanted : List StaticType) (xs : List Typed) (es : List Emitted) → AllStated c xs es →
      go_in c.source.table wanted xs ≡ true → EachOfProgram (types_in c) wanted → Arguments c wanted es
  arguments [] [] [] all e of = record { types = []; work = tt; fit = tt; count = refl }
  arguments [] [] (r ∷ es) all e of = absurd all
  arguments [] (x ∷ xs) es all e of = not_true e
  arguments (t ∷ ts) [] es all e of = not_true e
  arguments (t ∷ ts) (x ∷ xs) [] all e of = absurd all
  arguments (t ∷ ts) (x ∷ xs) (r ∷ es) all e of =
      let b = both_true (goes_in c.source.table t x) (go_in c.source.table ts xs) e in
      let g = both_true x.is_well (conforms_if c.source.table x.of t) b.0 in
      let s : Stated c x r = all.0 g.0 in
      let k = type_given c t x.of g.1 in
      let rest : Arguments c ts es = arguments ts xs es all.1 b.1 (λ n u f. of (suc n) u f) in
      record {
        types = k.0 ∷ rest.types;
        work = (works s.shown k.0 k.1, rest.work);
        fit = (record { given = s.of k.0 k.1; wanted = of 0 t refl; conforms = known.conforms k.0 t k.2 }, rest.fit);
        count = ap suc rest.count;
      }

  -- ---- new objects

  boolean_fits : FitsAs (setting c) boolean boolean
  boolean_fits = each_fits c known.operations boolean tt

  class_fits : (k : Class) → IsIn k c.source.core.classes → FitsAs (setting c) (named k.number) (named k.number)
  class_fits k there = let of : KnownClass c.source k = known.classes k there in each_fits c known.operations
      (named k.number) of.number

  -- what a new object gets is what its class is given
  fine_new :
      (k : Class) (ts : List StaticType) → IsIn k c.source.core.classes → AllFit c ts (class_declared k).given →
      FineStop (declared_of c.source) c.parts c.number c.operation (stop.New (class_number c.source k.number)) ts
      (Some (named k.number))
  fine_new k ts there fit =
      let of : KnownClass c.source k = known.classes k there in (class_declared k, of.at, (fit, refl))

  new_leads :
      (k : Class) (ts : List StaticType) (count : ℕ) → IsIn k c.source.core.classes → AllFit c ts (class_declared k).given →
      length ts ≡ count → (hs : Held) →
      Goes (setting c) (stops_at (stop.New (class_number c.source k.number)) (length hs) count (named k.number))
      (above hs ts)
      (Some (named k.number) ∷ hs)
  new_leads k ts count there fit is hs =
      subst
      (λ n.
      Goes (setting c) (stops_at (stop.New (class_number c.source k.number)) (length hs) n (named k.number)) (above hs ts)
      (Some (named k.number) ∷ hs))
      is
      (rests (length c.operation.variables) (named k.number) hs ts (class_fits k there)
      (stop.New (class_number c.source k.number))
      (fine_new k ts there fit))

  -- a new object of the class with a number, by its code
  abbrev NewOf : Bool → ℕ → ℕ → (ℕ → List Op) → Emitted
  NewOf fits class takes code =
      new_object c.source (length c.captured) (length c.operation.variables) c.parts.literals fits class takes code

  new_shown :
      (b : Bool) (fits : Bool) (k : Class) (ts : List StaticType) (count : ℕ) (code : ℕ → List Op) →
      IsIn k c.source.core.classes → AllFit c ts (class_declared k).given → length ts ≡ count → ((hs : Held) →
      Goes (setting c) (code (length hs)) hs (above hs ts)) →
      Shown (setting c) (typed_if b (Some (named k.number))) (NewOf fits k.number count code)
  new_shown b fits k ts count code there fit is leads =
      by_its_code boolean_fits fits (λ h. code h ++ stops_at (stop.New (class_number c.source k.number)) h count
      (named k.number))
      (λ hs. go_on (leads hs) (new_leads k ts count there fit is hs))

  -- A class that captures nothing is given arguments, and one without parameters what it captures.
  given_arguments : (k : Class) → k.captured ≡ [] → (class_declared k).given ≡ parameters_of_class k
  given_arguments k e = ap (λ z. z ++ take k.parameters (field_types_of k)) e

  given_captured : (k : Class) → k.parameters ≡ 0 → (class_declared k).given ≡ k.captured
  given_captured k e = ap (λ n. k.captured ++ take n (field_types_of k)) e ∙ append-nil k.captured

  pub constructed :
      (b : Bool) (class : ℕ) (ps : List Place) → Right (Constructed class (length ps)) →
      some_class (λ k. k.number == class && are_captured k.captured (map (place_type (site c)) ps)) c.source.core.classes ≡
      true → Shown (setting c) (typed_if b (Some (named class)))
      (NewOf true class (length ps) (fetch_all c.source (length c.captured) (length c.operation.variables) c.parts.literals
      ps))
      × IsOfProgram (types_in c) (named class)
  constructed b class ps right e =
      let test : Class → Bool = λ k. k.number == class && are_captured k.captured (map (place_type (site c)) ps) in
      let p : Passing test c.source.core.classes = passing test c.source.core.classes e in
      let k : Class = p.class in
      let t = both_true (k.number == class) (are_captured k.captured (map (place_type (site c)) ps)) p.passes in
      let is : k.number ≡ class = eqb-true k.number class t.0 in
      let of : KnownClass c.source k = known.classes k p.there in
      let fetched : ℕ → List Op = fetch_all c.source (length c.captured) (length c.operation.variables) c.parts.literals ps
      in
      subst
      (λ n.
      Shown (setting c) (typed_if b (Some (named n))) (NewOf true n (length ps) fetched) × IsOfProgram (types_in c)
      (named n))
      is (
        new_shown b true k k.captured (length ps) fetched p.there
            (subst (AllFit c k.captured) (sym (given_captured k (known.constructs class (length ps) right k p.there is)))
            (fit_themselves c k.captured (each_fits c known.operations) of.captured))
            (captured_length c Right known k.captured ps t.1) (λ hs. captured_lead c Right known k.captured ps t.1 hs),
        of.number,
      )

  pub created :
      (b : Bool) (class count : ℕ) (xs : List Typed) (es : List Emitted) → AllStated c xs es → Right (Created class count) →
      some_class (λ k. k.number == class && go_in c.source.table (parameters_of_class k) xs) c.source.core.classes ≡ true →
      Shown (setting c) (typed_if b (Some (named class))) (NewOf (all_fit es) class (length es) (all_code es))
      × IsOfProgram (types_in c) (named class)
  created b class count xs es all right e =
      let test : Class → Bool = λ k. k.number == class && go_in c.source.table (parameters_of_class k) xs in
      let p : Passing test c.source.core.classes = passing test c.source.core.classes e in
      let k : Class = p.class in
      let t = both_true (k.number == class) (go_in c.source.table (parameters_of_class k) xs) p.passes in
      let is : k.number ≡ class = eqb-true k.number class t.0 in
      let of : KnownClass c.source k = known.classes k p.there in
      let args : Arguments c (parameters_of_class k) es =
      arguments (parameters_of_class k) xs es all t.1
      (λ n u f. of.fields n u (within_taken k.parameters (field_types_of k) n u f)) in
      subst
      (λ n.
      Shown (setting c) (typed_if b (Some (named n))) (NewOf (all_fit es) n (length es) (all_code es))
      × IsOfProgram (types_in c) (named n))
      is (
        new_shown b (all_fit es) k args.types (length es) (all_code es) p.there
            (subst (AllFit c args.types) (sym (given_arguments k (known.creates class count right k p.there is))) args.fit)
            args.count (λ hs. all_lead es args.types args.work hs),
        of.number,
      )
