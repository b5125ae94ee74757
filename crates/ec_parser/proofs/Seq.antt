-- A list of symbols, with each part by its meaning, takes the tokens that it reads.
use Rattle.std.proofs.Common.{◌≡◌, ℕ, zero, suc, ◌+◌, ◌<◌, List, [], ◌∷◌, ◌++◌, length, refl, sym, subst, arith}
use Rattle.ec_parser.specs.declared.terminal.Terminal.{Terminal}
use Rattle.ec_parser.specs.Terminals.{terminal_of}
use Rattle.ec_lexer.specs.declared.token.Token.{Token as Word}
use Rattle.ec_parser.specs.declared.grammar.Act.{Act}
use Rattle.ec_parser.specs.declared.grammar.Bound.{Bound as Bound_of}
use Rattle.ec_parser.specs.declared.grammar.Part.{Part as Part_of}
use Rattle.ec_parser.specs.declared.grammar.Symbol.{Symbol}
use Rattle.ec_parser.specs.declared.grammar.Symbol.TheVariants.{Token, Keep, Part, Bound, Do}
use Rattle.ec_parser.specs.declared.values.Values.{Values}
use Rattle.ec_parser.specs.Rules.{rules}
use Rattle.ec_parser.specs.Reads.{IsRule, open_in, Reads}
use Rattle.ec_parser.specs.Reads as reads
use Rattle.ec_parser.specs.Values.{act, keep as kept}
use Rattle.ec_parser.specs.Follow.{weight_of}
use Rattle.ec_parser.proofs.Meaning.{Means}
use Rattle.ec_parser.proofs.Theory.{lighter_rule}

pub data Seq : List Symbol → Values → List Word → List Word → Values → Type 0 where
  finished : {vs ws : Values} {us : List Word} → vs ≡ ws → Seq [] vs us us ws
  token : {k : Terminal} {s : List Symbol} {vs ws : Values} {t : Word} {ts us : List Word} →
      (terminal_of t) ≡ k → Seq s vs ts us ws → Seq (Token k ∷ s) vs (t ∷ ts) us ws
  keep : {k : Terminal} {s : List Symbol} {vs ws : Values} {t : Word} {ts us : List Word} →
      (terminal_of t) ≡ k → Seq s (kept k t vs) ts us ws → Seq (Keep k ∷ s) vs (t ∷ ts) us ws
  part : {p : Part_of} {s : List Symbol} {vs ws zs : Values} {ts us ms : List Word} →
      Means p vs ts ms ws → Seq s ws ms us zs → Seq (Part p ∷ s) vs ts us zs
  bound : {o : Bound_of} {s : List Symbol} {vs ws : Values} {ts us : List Word} → Seq s vs ts us ws → Seq (Bound o ∷ s) vs ts us ws
  made : {a : Act} {s : List Symbol} {vs ws : Values} {ts us : List Word} → Seq s (act a vs) ts us ws → Seq (Do a ∷ s) vs ts us ws

-- what two lists of symbols take one after the other
pub record Split (xs s : List Symbol) (vs : Values) (ts us : List Word) (zs : Values) : Type 0 where
  pub between : List Word
  pub values : Values
  pub front : Seq xs vs ts between values
  pub back : Seq s values between us zs

pub split : (xs s : List Symbol) {vs zs : Values} {ts us : List Word} → Seq (xs ++ s) vs ts us zs → Split xs s vs ts us zs
split [] s {vs = vs} {ts = ts} d = record { between = ts; values = vs; front = finished refl; back = d }
split (Token k ∷ xs) s (token e d) = let h = split xs s d in
    record { between = h.between; values = h.values; front = token e h.front; back = h.back }
split (Keep k ∷ xs) s (keep e d) = let h = split xs s d in
    record { between = h.between; values = h.values; front = keep e h.front; back = h.back }
split (Part p ∷ xs) s (part m d) = let h = split xs s d in
    record { between = h.between; values = h.values; front = part m h.front; back = h.back }
split (Bound o ∷ xs) s (bound d) = let h = split xs s d in
    record { between = h.between; values = h.values; front = bound h.front; back = h.back }
split (Do a ∷ xs) s (made d) = let h = split xs s d in
    record { between = h.between; values = h.values; front = made h.front; back = h.back }

pub joined : {xs s : List Symbol} {vs ws zs : Values} {ts ms us : List Word} → Seq xs vs ts ms ws → Seq s ws ms us zs →
    Seq (xs ++ s) vs ts us zs
joined {s = s} {zs = zs} {ms = ms} {us = us} (finished e) d = subst (λ v. Seq s v ms us zs) (sym e) d
joined (token e c) d = token e (joined c d)
joined (keep e c) d = keep e (joined c d)
joined (part m c) d = part m (joined c d)
joined (bound c) d = bound (joined c d)
joined (made c) d = made (joined c d)

-- what an alternative of a part takes, the part means
abbrev pub Sound : Type 0
Sound = (p : Part_of) (r : List Symbol) (vs ws : Values) (ts us : List Word) → IsRule r (rules p) → Seq r vs ts us ws → Means p vs ts us ws

-- what a part means, one of its alternatives takes
pub record Taken (p : Part_of) (vs : Values) (ts us : List Word) (ws : Values) : Type 0 where
  pub alternative : List Symbol
  pub is_rule : IsRule alternative (rules p)
  pub takes : Seq alternative vs ts us ws

abbrev pub Complete : Type 0
Complete = (p : Part_of) (vs ws : Values) (ts us : List Word) → Means p vs ts us ws → Taken p vs ts us ws

pub took : {p : Part_of} {r : List Symbol} {vs ws : Values} {ts us : List Word} → IsRule r (rules p) → Seq r vs ts us ws →
    Taken p vs ts us ws
took {r = r} m d = record { alternative = r; is_rule = m; takes = d }

-- the same at values that are equal
pub into : {p : Part_of} {vs w w' : Values} {ts us : List Word} → w ≡ w' → Means p vs ts us w → Means p vs ts us w'
into {p = p} {vs = vs} {ts = ts} {us = us} e m = subst (Means p vs ts us) e m

pub same_as : {p : Part_of} {vs w w' : Values} {ts us : List Word} → w ≡ w' → Means p vs ts us w' → Means p vs ts us w
same_as e m = into (sym e) m

pub taken_as : {p : Part_of} {vs w w' : Values} {ts us : List Word} → w ≡ w' → Taken p vs ts us w → Taken p vs ts us w'
taken_as {p = p} {vs = vs} {ts = ts} {us = us} e m = subst (Taken p vs ts us) e m

pub whole : Sound → {s : List Symbol} {vs ws : Values} {ts : List Word} {ns : List ℕ} → Reads s vs ts ns ws → Seq s vs ts [] ws
whole sound reads.finished = finished refl
whole sound (reads.token e d) = token e (whole sound d)
whole sound (reads.keep e d) = keep e (whole sound d)
whole sound (reads.part {p = p} {s = s} r m d) =
    let h = split r s (whole sound d) in
    part (sound p r _ h.values _ h.between m h.front) h.back
whole sound (reads.bound d) = bound (whole sound d)
whole sound (reads.made d) = made (whole sound d)

-- the tokens are read, at some nestings
pub record IsRead (s : List Symbol) (vs : Values) (ts : List Word) (ws : Values) : Type 0 where
  pub nestings : List ℕ
  pub reads : Reads s vs ts nestings ws

abbrev Shorter : ℕ → Type 0
Shorter n = (s : List Symbol) (vs ws : Values) (ts : List Word) → length ts < n → Seq s vs ts [] ws → IsRead s vs ts ws

by_weight : Complete → (n : ℕ) → Shorter n → (w : ℕ) (s : List Symbol) (vs ws : Values) (ts : List Word) → length ts < suc n →
    weight_of s < w → Seq s vs ts [] ws → IsRead s vs ts ws
by_weight complete n shorter zero s vs ws ts h l d = absurd (omega (arith, l))
by_weight complete n shorter (suc w) _ _ _ _ h l (finished {vs = vs} e) =
    record { nestings = []; reads = subst (λ v. Reads [] vs [] [] v) e reads.finished }
by_weight complete n shorter (suc w) _ _ ws _ h l (token {k = k} {s = s} {vs = vs} {t = t} {ts = ts} e d) =
    let i = shorter s vs ws ts (omega (arith, h)) d in record { nestings = open_in s ∷ i.nestings; reads = reads.token e i.reads }
by_weight complete n shorter (suc w) _ _ ws _ h l (keep {k = k} {s = s} {vs = vs} {t = t} {ts = ts} e d) =
    let i = shorter s (kept k t vs) ws ts (omega (arith, h)) d in record { nestings = open_in s ∷ i.nestings; reads = reads.keep e i.reads }
by_weight complete n shorter (suc w) _ vs ws ts h l (part {p = p} {s = s} {ws = vs'} {ms = ms} m d) =
    let c = complete p vs vs' ts ms m in
    let i = by_weight complete n shorter w (c.alternative ++ s) vs ws ts h (omega (arith, l, lighter_rule p s c.alternative c.is_rule))
    (joined c.takes d) in
    record { nestings = i.nestings; reads = reads.part c.alternative c.is_rule i.reads }
by_weight complete n shorter (suc w) _ vs ws ts h l (bound {s = s} d) =
    let i = by_weight complete n shorter w s vs ws ts h (omega (arith, l)) d in
    record { nestings = i.nestings; reads = reads.bound i.reads }
by_weight complete n shorter (suc w) _ vs ws ts h l (made {a = a} {s = s} d) =
    let i = by_weight complete n shorter w s (act a vs) ws ts h (omega (arith, l)) d in
    record { nestings = i.nestings; reads = reads.made i.reads }

by_length : Complete → (n : ℕ) → Shorter n
by_length complete zero s vs ws ts h d = absurd (omega (arith, h))
by_length complete (suc n) s vs ws ts h d = by_weight complete n (by_length complete n) (weight_of s + 1) s vs ws ts h (omega arith) d

-- what the meanings take is read
pub is_read : Complete → (s : List Symbol) (vs ws : Values) (ts : List Word) → Seq s vs ts [] ws → IsRead s vs ts ws
is_read complete s vs ws ts d = by_length complete (length ts + 1) s vs ws ts (omega arith) d
