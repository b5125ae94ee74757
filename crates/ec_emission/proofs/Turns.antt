-- What code does, wherever it stands: with values held and items to do, it comes to others.
use Rattle.std.proofs.Common.{◌≡◌, ℕ, zero, suc, ◌+◌, List, [], ◌∷◌, ◌++◌, length, Some, refl, sym, ap, subst, arith, append_assoc}
use Rattle.std.proofs.Common.{length-append}
use Rattle.std.specs.Prelude.{slice_get}
use Rattle.ec_code.specs.declared.code.Op.{Op}
use Rattle.ec_types.specs.declared.conform.static_type.StaticType.{StaticType}
use Rattle.ec_core.specs.declared.Block.{Block}
use Rattle.ec_emission.specs.Expressions.{Condition, stops_at}
use Rattle.ec_meaning.specs.Programs.{Source}
use Rattle.ec_meaning.specs.Steps.{Step, Goes}
use Rattle.ec_meaning.specs.declared.item.Item.{Item}
use Rattle.ec_meaning.specs.declared.item.Item.TheVariants as i
use Rattle.ec_meaning.specs.declared.state.State.{State}
use Rattle.ec_meaning.specs.declared.state.Whose.{Whose}
use Rattle.ec_emission.specs.Stands as at
use Rattle.ec_emission.specs.Stands.{Hold, Kept, all_kept}
use Rattle.ec_world.specs.declared.stop.Stop.{Stop}

-- these steps stand in the code from a place on
abbrev pub Placed : List Op → ℕ → List Op → Type 0
Placed code q [] = Unit {0}
Placed code q (o ∷ ops) = (slice_get code q ≡ Some o) × Placed code (suc q) ops

pub placed_first : (code xs ys : List Op) (q : ℕ) → Placed code q (xs ++ ys) → Placed code q xs
placed_first code [] ys q p = tt
placed_first code (x ∷ xs) ys q p = (p.0, placed_first code xs ys (suc q) p.1)

pub placed_second : (code xs ys : List Op) (q r : ℕ) → r ≡ q + length xs → Placed code q (xs ++ ys) → Placed code r ys
placed_second code [] ys q r e p = let f : q ≡ r = omega arith in subst (λ j. Placed code j ys) f p
placed_second code (x ∷ xs) ys q r e p = placed_second code xs ys (suc q) r (omega arith) p.1

pub kept_under : (k : ℕ) (hs : List Hold) → all_kept k (Kept ∷ hs) ≡ Kept ∷ all_kept k hs
kept_under zero hs = refl
kept_under (suc k) hs = ap (λ ks. Kept ∷ ks) (kept_under k hs)

-- where code stands: the source, the operation, how many names its class captures, how many variables it has, the program's
-- literals, the operation's code, and its loops
pub record Setting : Type 1 where
  pub source : Source
  pub number : ℕ
  pub captured : ℕ
  pub count : ℕ
  pub literals : List (List ℕ)
  pub code : List Op
  pub Loop : ℕ → ℕ → Block → Type 0

module _ (w : Setting) where
  abbrev pub Standing : List Hold → ℕ → List Item → Type 0
  Standing hs q xs = at.Stands w.source w.number w.captured w.count w.literals w.code w.Loop hs q xs

  abbrev pub whose : ℕ → Whose
  whose own = record { operation = w.number; own = own }

  abbrev pub Comes : Item → (ℕ → State → Step) → Type 0
  Comes x to = at.Comes w.source w.number w.captured w.count w.literals w.code w.Loop x to

  pub record Turns (ops : List Op) (hs ks : List Hold) (xs ys : List Item) : Type 0 where
    pub go :
        (q r : ℕ) (zs : List Item) → r ≡ q + length ops → Placed w.code q ops → Standing ks r (ys ++ zs) → Standing hs q (xs ++ zs)

  -- the code of a condition: what is held behind it, and what is left for the step that asks
  pub record Asked (c : Condition) (hs : List Hold) (xs : List Item) : Type 0 where
    pub held : List Hold
    pub before : List Item
    pub asks : at.Asks w.source w.number w.captured w.count w.literals w.code w.Loop held before hs c.asks c.wanted
    pub turns : Turns c.code hs held xs before

  -- the same, where an item makes the truth
  pub record Decided (c : Condition) (hs : List Hold) (xs : List Item) : Type 0 where
    pub held : List Hold
    pub item : Item
    pub decides : at.Decides w.source w.number w.captured w.count w.literals w.code w.Loop held item hs c.asks c.wanted
    pub turns : Turns c.code hs held xs (item ∷ [])

module _ {w : Setting} where
  -- without code
  pub silent :
      {hs ks : List Hold} {xs ys : List Item} →
      ((q : ℕ) (zs : List Item) → Standing w ks q (ys ++ zs) → Standing w hs q (xs ++ zs)) → Turns w [] hs ks xs ys
  silent {hs} {ks} {xs} {ys} act = record {
    go = λ q r zs e p d. let f : r ≡ q = omega arith in act q zs (subst (λ j. Standing w ks j (ys ++ zs)) f d);
  }

  pub nothing : {hs : List Hold} {xs : List Item} → Turns w [] hs hs xs xs
  nothing = silent (λ q zs d. d)

  -- one behind the other
  pub in_turn :
      {a b : List Op} {hs ks ls : List Hold} {xs ys zs : List Item} → Turns w a hs ks xs ys → Turns w b ks ls ys zs →
      Turns w (a ++ b) hs ls xs zs
  in_turn {a} {b} x y = record {
    go = λ q r rest e p d.
        let l : length (a ++ b) ≡ length a + length b = length-append a b in
        let there : Placed w.code (q + length a) b = placed_second w.code a b q (q + length a) refl p in
        let f : r ≡ q + length a + length b = omega arith in
        x.go q (q + length a) rest refl (placed_first w.code a b q p) (y.go (q + length a) r rest f there d);
  }

  -- with more to do behind
  pub framed :
      {ops : List Op} {hs ks : List Hold} {xs ys : List Item} → (more : List Item) → Turns w ops hs ks xs ys →
      Turns w ops hs ks (xs ++ more) (ys ++ more)
  framed {ops} {hs} {ks} {xs} {ys} more t = record {
    go = λ q r zs e p d.
        subst (Standing w hs q) (sym (append_assoc xs more zs))
        (t.go q r (more ++ zs) e p (subst (Standing w ks r) (append_assoc ys more zs) d));
  }

  -- a single step
  pub one :
      {o : Op} {hs ks : List Hold} {xs ys : List Item} →
      ((q : ℕ) (zs : List Item) → slice_get w.code q ≡ Some o → Standing w ks (suc q) (ys ++ zs) → Standing w hs q (xs ++ zs)) →
      Turns w (o ∷ []) hs ks xs ys
  one {o} {hs} {ks} {xs} {ys} act = record {
    go = λ q r zs e p d. let f : r ≡ suc q = omega arith in act q zs p.0 (subst (λ j. Standing w ks j (ys ++ zs)) f d);
  }

  -- an item opens into others
  pub opened :
      {ops : List Op} {hs ks : List Hold} {x : Item} {ys : List Item} → (more : List Item) → Comes w x (λ own st. Goes st more) →
      Turns w ops hs ks more ys → Turns w ops hs ks (x ∷ []) ys
  opened more comes t = record { go = λ q r zs e p d. at.opens more comes (t.go q r zs e p d) }

  -- a stop with the values held last
  pub stops :
      (action : Stop) (takes : ℕ) (of : StaticType) (hs : List Hold) →
      Turns w (stops_at action (length hs) takes of) (all_kept takes hs) (Kept ∷ hs) (i.Rest action takes ∷ []) []
  stops action takes of hs = one (λ q zs is d. at.rests hs (Some of) is d)
