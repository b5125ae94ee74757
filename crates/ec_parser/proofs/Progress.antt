-- What a loop over the tokens keeps, and what it says where it stops.
use Rattle.std.proofs.Common.{◌≡◌, ℕ, ◌+◌, ◌<◌, ◌≤◌, List, [], ◌∷◌, ◌++◌, length, take, drop, refl, sym, ◌∙◌, ap, subst, arith}
use Rattle.std.proofs.Common.{append_assoc, append-nil, length-append, take-append-drop}
use Rattle.ec_parser.specs.declared.grammar.Part.TheVariants as part
use Rattle.ec_lexer.specs.declared.token.Token.{Token as Word}
use Rattle.ec_parser.specs.declared.values.Values.{Values}
use Rattle.ec_parser.specs.declared.grammar.Symbol.{Symbol}
use Rattle.ec_parser.specs.declared.grammar.Symbol.TheVariants.{Part}
use Rattle.ec_parser.specs.Reads.{open_in, Reads}
use Rattle.ec_parser.specs.Values.{no_values}
use Rattle.ec_parser.specs.Fits.{Fits}
use Rattle.ec_parser.specs.Follow.{Follows, Goes, Refuses, EndsWith, EndsNowhere}
use Rattle.ec_parser.specs.Prefixes.{IsProgram, Begins, BeginsNone, IsSyntax, IsDeep}
use Rattle.ec_parser.specs.Program.{AreShallow}
use Rattle.ec_parser.proofs.Theory.{reaches}
use Rattle.ec_parser.proofs.Fitting.{fits_start}

pub record Reached (ts : List Word) (s : List Symbol) (vs : Values) : Type 0 where
  pub follows : Follows s
  pub fits : Fits s vs
  pub nestings : List ℕ
  pub long : length nestings ≡ length ts
  pub shallow : AreShallow nestings
  pub forth : (us : List Word) (ms : List ℕ) (ws : Values) → IsProgram (ts ++ us) ms ws →
      (rest : List ℕ) × (ms ≡ nestings ++ rest) × Reads s vs us rest ws
  pub back : (us : List Word) (rest : List ℕ) (ws : Values) → Reads s vs us rest ws → IsProgram (ts ++ us) (nestings ++ rest) ws

pub start : Reached [] (Part part.Program ∷ []) no_values
start = record {
  follows = (λ k h. h, tt);
  fits = fits_start;
  nestings = [];
  long = refl;
  shallow = tt;
  forth = λ us ms ws d. (ms, refl, d);
  back = λ us rest ws d. d;
}

shallow-append : (ns : List ℕ) (n : ℕ) → AreShallow ns → n ≤ 64 → AreShallow (ns ++ n ∷ [])
shallow-append [] n s h = (h, tt)
shallow-append (x ∷ ns) n s h = (s.0, shallow-append ns n s.1 h)

not_shallow : (ns : List ℕ) (n : ℕ) (ms : List ℕ) → 64 < n → AreShallow (ns ++ n ∷ ms) → ⊥
not_shallow [] n ms h s = absurd (omega (arith, h, s.0))
not_shallow (x ∷ ns) n ms h s = not_shallow ns n ms h s.1

module _ (ts : List Word) (s : List Symbol) (vs : Values) (r : Reached ts s vs) where
  pub begun : Begins ts
  begun = let e = reaches s r.follows vs in record {
    more = e.0;
    nestings = r.nestings;
    others = e.1;
    values = e.2;
    long = r.long;
    shallow = r.shallow;
    program = r.back e.0 e.1 e.2 e.3;
  }

  pub refused : (t : Word) → Refuses t s vs → BeginsNone (ts ++ t ∷ [])
  refused t n more ns ws d = n more _ ws (r.forth (t ∷ more) ns ws (rw append_assoc at d)).2

  module _ (t : Word) (s' : List Symbol) (vs' : Values) (g : Goes t s vs s' vs') where
    forth_more : (us : List Word) (ms : List ℕ) (ws : Values) → IsProgram ((ts ++ t ∷ []) ++ us) ms ws →
        (rest : List ℕ) × (ms ≡ (r.nestings ++ open_in s' ∷ []) ++ rest) × Reads s' vs' us rest ws
    forth_more us ms ws d =
        let i = r.forth (t ∷ us) ms ws (rw append_assoc at d) in
        let j = g.forth us i.0 ws i.2 in
        (j.0, i.1 ∙ ap (λ x. r.nestings ++ x) j.1 ∙ sym (append_assoc r.nestings (open_in s' ∷ []) j.0), j.2)

    back_more : (us : List Word) (rest : List ℕ) (ws : Values) → Reads s' vs' us rest ws →
        IsProgram ((ts ++ t ∷ []) ++ us) ((r.nestings ++ open_in s' ∷ []) ++ rest) ws
    back_more us rest ws d =
        rw (append_assoc ts (t ∷ []) us, append_assoc r.nestings (open_in s' ∷ []) rest)
        (r.back (t ∷ us) (open_in s' ∷ rest) ws (g.back us rest ws d))

    pub goes_on : open_in s' ≤ 64 → Reached (ts ++ t ∷ []) s' vs'
    goes_on h = record {
      follows = g.follows;
      fits = g.fits;
      nestings = r.nestings ++ open_in s' ∷ [];
      long = rw (length-append r.nestings (open_in s' ∷ []), length-append ts (t ∷ []), r.long) refl;
      shallow = shallow-append r.nestings (open_in s') r.shallow h;
      forth = forth_more;
      back = back_more;
    }

module _ (tokens : List Word) (i : ℕ) (s : List Symbol) (vs : Values) (r : Reached (take i tokens) s vs) where
  module _ (t : Word) (inside : i < length tokens) (more : take (i + 1) tokens ≡ take i tokens ++ t ∷ []) where
    none_from : Refuses t s vs → BeginsNone (take (i + 1) tokens)
    none_from n = rw more (refused (take i tokens) s vs r t n)

    pub no_program_from : Refuses t s vs → (ns : List ℕ) (ws : Values) → IsProgram tokens ns ws → ⊥
    no_program_from n ns ws d =
        none_from n (drop (i + 1) tokens) ns ws (subst (λ us. IsProgram us ns ws) (sym (take-append-drop (i + 1) tokens)) d)

    pub syntax_at : Refuses t s vs → IsSyntax tokens i
    syntax_at n = record {
      within = omega arith;
      before = begun (take i tokens) s vs r;
      after = λ _. none_from n;
      no_program = no_program_from n;
    }

    module _ (s' : List Symbol) (vs' : Values) (g : Goes t s vs s' vs') where
      pub reached_more : open_in s' ≤ 64 → Reached (take (i + 1) tokens) s' vs'
      reached_more h = rw more (goes_on (take i tokens) s vs r t s' vs' g h)

      module _ (n : ℕ) (is : n ≡ open_in s') (deep : 64 < n) where
        pub not_deep : (ns : List ℕ) (ws : Values) → IsProgram tokens ns ws → AreShallow ns → ⊥
        not_deep ns ws d h =
            let e : take (i + 1) tokens ++ drop (i + 1) tokens ≡ tokens = take-append-drop (i + 1) tokens in
            let d' : IsProgram ((take i tokens ++ t ∷ []) ++ drop (i + 1) tokens) ns ws =
            subst (λ us. IsProgram us ns ws) (sym e ∙ ap (λ x. x ++ drop (i + 1) tokens) more) d in
            let f = forth_more (take i tokens) s vs r t s' vs' g (drop (i + 1) tokens) ns ws d' in
            not_shallow r.nestings (open_in s') f.0 (omega arith) (subst AreShallow (f.1 ∙ append_assoc r.nestings (open_in s' ∷ []) f.0) h)

        pub deep_at : length (take i tokens) ≡ i → IsDeep tokens i
        deep_at l = let e = reaches s' g.follows vs' in record {
          within = inside;
          more = e.0;
          nestings = r.nestings;
          nesting = open_in s';
          others = e.1;
          values = e.2;
          long = r.long ∙ l;
          shallow = r.shallow;
          deep = omega arith;
          program = rw (more, ← append_assoc r.nestings (open_in s' ∷ []) e.1)
              (back_more (take i tokens) s vs r t s' vs' g e.0 e.1 e.2 e.3);
        }

module _ (tokens : List Word) (s : List Symbol) (vs : Values) (r : Reached tokens s vs) where
  pub unfinished : EndsNowhere s vs → (ns : List ℕ) (ws : Values) → IsProgram tokens ns ws → ⊥
  unfinished n ns ws d = let f = r.forth [] ns ws (rw append-nil d) in n f.0 ws f.2

  pub syntax_at_end : take (length tokens) tokens ≡ tokens → EndsNowhere s vs → IsSyntax tokens (length tokens)
  syntax_at_end e n = record {
    within = omega arith;
    before = rw e (begun tokens s vs r);
    after = λ h. absurd (omega arith);
    no_program = unfinished n;
  }

module _ (tokens : List Word) (s : List Symbol) (vs ws : Values) (r : Reached tokens s vs) (e : EndsWith s vs ws) where
  pub whole_found : (ns : List ℕ) × IsProgram tokens ns ws × AreShallow ns
  whole_found = (
    r.nestings,
    subst (λ us. IsProgram us r.nestings ws) (append-nil tokens)
        (subst (λ ns. IsProgram (tokens ++ []) ns ws) (append-nil r.nestings) (r.back [] [] ws e.made)),
    r.shallow,
  )

  pub whole_only : (ns : List ℕ) (other : Values) → IsProgram tokens ns other → ws ≡ other
  whole_only ns other d = let f = r.forth [] ns other (rw append-nil d) in sym (e.only f.0 other f.2).1
