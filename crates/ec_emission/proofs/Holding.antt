-- Values that are held, and what of the code has them.
use Rattle.std.proofs.Common.{◌≡◌, ℕ, zero, suc, ◌+◌, ◌-◌, ◌<◌, List, [], ◌∷◌, ◌++◌, length, take, drop, Some}
use Rattle.std.proofs.Common.{true, refl, sym, ap, ◌∙◌, subst, arith, append_assoc, append-nil, length-append, le-leb}
use Rattle.std.proofs.Math.Seq.{drop-append_seam, take-append_seam}
use Rattle.std.specs.Prelude.{slice_get, nat_le}
use Rattle.ec_base.proofs.Stacks.{top_of-push, below_of-push, stack_parts}
use Rattle.ec_base.specs.Stack.{top_of, below_of}
use Rattle.ec_code.specs.Steps.{Machine, operand_at, put, variables_at}
use Rattle.ec_code.specs.declared.code.Operand.{Operand}
use Rattle.ec_meaning.specs.Steps.{Rests, holding, rest_at}
use Rattle.ec_meaning.specs.declared.state.State.{State}
use Rattle.ec_emission.specs.Leaves.{Leaf, Named, Number, Truth, Nil, leaf_operand, said, temporary}
use Rattle.ec_emission.specs.Rows.{temporaries}
use Rattle.ec_emission.specs.Stands.{Hold, Kept, Said, Own, read, all_kept}
use Rattle.ec_world.specs.declared.stop.Stop.{Stop}
use Rattle.ec_world.specs.declared.value.Value.{Value}
use Rattle.ec_world.specs.declared.value.Value.TheVariants as value

-- ---- temporaries that are set

put_here : (ts : List Value) (n : ℕ) (v : Value) → slice_get (put ts n v) n ≡ Some v
put_here [] zero v = refl
put_here [] (suc n) v = put_here [] n v
put_here (t ∷ ts) zero v = refl
put_here (t ∷ ts) (suc n) v = put_here ts n v

put_keeps : (ts : List Value) (n k : ℕ) (v u : Value) → k < n → slice_get ts k ≡ Some u → slice_get (put ts n v) k ≡ Some u
put_keeps [] n k v u h e = cc
put_keeps (t ∷ ts) zero k v u h e = absurd (omega arith)
put_keeps (t ∷ ts) (suc n) zero v u h e = e
put_keeps (t ∷ ts) (suc n) (suc k) v u h e = put_keeps ts n k v u (omega arith) e

-- ---- what has a value

-- the value held last, what has it, and the values below it
pub record Above (has : Value → Type 0) (rest : List Value → Type 0) (held : List Value) : Type 0 where
  pub value : Value
  pub is : top_of held ≡ Some value
  pub here : has value
  pub below : rest (below_of held)

module _ (own : ℕ) where
  -- a value held above so many others is here, over named variables and temporaries
  abbrev pub Has : List Value → List Value → ℕ → Hold → Value → Type 0
  Has vs ts n Kept v = slice_get ts n ≡ Some v
  Has vs ts n (Said l) v = said vs l ≡ Some v
  Has vs ts n Own v = (slice_get ts n ≡ Some v) × (v ≡ value.Ref own)

  abbrev pub HoldsAll : List Value → List Value → List Hold → List Value → Type 0
  HoldsAll vs ts [] held = held ≡ []
  HoldsAll vs ts (h ∷ hs) held = Above (Has vs ts (length hs) h) (HoldsAll vs ts hs) held

  pub held_count : (vs ts : List Value) (hs : List Hold) (held : List Value) → HoldsAll vs ts hs held → length held ≡ length hs
  held_count vs ts [] held a = ap length a
  held_count vs ts (h ∷ hs) held a =
      let e = held_count vs ts hs (below_of held) a.below in
      let g = length-append (below_of held) (a.value ∷ []) in
      ap length (stack_parts held a.value a.is) ∙ omega arith

  -- what keeps each of the places keeps them all
  held_along : (vs ts ws us : List Value) (hs : List Hold) (held : List Value) →
      ((n : ℕ) (h : Hold) (v : Value) → n < length hs → Has vs ts n h v → Has ws us n h v) → HoldsAll vs ts hs held →
      HoldsAll ws us hs held
  held_along vs ts ws us [] held k a = a
  held_along vs ts ws us (h ∷ hs) held k a = record {
    value = a.value;
    is = a.is;
    here = k (length hs) h a.value (omega arith) a.here;
    below = held_along vs ts ws us hs (below_of held) (λ n g v l. k n g v (omega arith)) a.below;
  }

  has_put : (vs ts : List Value) (d n : ℕ) (h : Hold) (u v : Value) → n < d → Has vs ts n h v → Has vs (put ts d u) n h v
  has_put vs ts d n Kept u v l a = put_keeps ts d n u v l a
  has_put vs ts d n (Said x) u v l a = a
  has_put vs ts d n Own u v l a = (put_keeps ts d n u v l a.0, a.1)

  -- one more value is held
  pub holds_push : (vs ts : List Value) (hs : List Hold) (held : List Value) (h : Hold) (v : Value) → Has vs ts (length hs) h v →
      HoldsAll vs ts hs held → HoldsAll vs ts (h ∷ hs) (held ++ v ∷ [])
  holds_push vs ts hs held h v a all = record {
    value = v;
    is = top_of-push held v;
    here = a;
    below = subst (HoldsAll vs ts hs) (sym (below_of-push held v)) all;
  }

  -- in its temporary
  pub holds_put : (vs ts : List Value) (hs : List Hold) (held : List Value) (h : Hold) (v : Value) →
      Has vs (put ts (length hs) v) (length hs) h v → HoldsAll vs ts hs held →
      HoldsAll vs (put ts (length hs) v) (h ∷ hs) (held ++ v ∷ [])
  holds_put vs ts hs held h v here all =
      holds_push vs (put ts (length hs) v) hs held h v here
      (held_along vs ts vs (put ts (length hs) v) hs held (λ n k u l. has_put vs ts (length hs) n k v u l) all)

  pub holds_kept : (vs ts : List Value) (hs : List Hold) (held : List Value) (v : Value) → HoldsAll vs ts hs held →
      HoldsAll vs (put ts (length hs) v) (Kept ∷ hs) (held ++ v ∷ [])
  holds_kept vs ts hs held v all = holds_put vs ts hs held Kept v (put_here ts (length hs) v) all

  pub holds_own : (vs ts : List Value) (hs : List Hold) (held : List Value) → HoldsAll vs ts hs held →
      HoldsAll vs (put ts (length hs) (value.Ref own)) (Own ∷ hs) (held ++ value.Ref own ∷ [])
  holds_own vs ts hs held all =
      holds_put vs ts hs held Own (value.Ref own) (put_here ts (length hs) (value.Ref own), refl) all

  -- ---- operands

  pub said_is : (m : Machine) (l : Leaf) → operand_at m (leaf_operand l) ≡ said m.variables l
  said_is m (Named n) = refl
  said_is m (Number z) = refl
  said_is m (Truth b) = refl
  said_is m Nil = refl

  -- what reads a value comes to it
  pub reads : (m : Machine) (n : ℕ) (h : Hold) (v : Value) (x : Operand) → Has m.variables m.temporaries n h v → read n h ≡ Some x →
      operand_at m x ≡ Some v
  reads m n Kept v x a r = let e : temporary n ≡ x = cc in subst (λ y. operand_at m y ≡ Some v) e a
  reads m n (Said l) v x a r = let e : leaf_operand l ≡ x = cc in subst (λ y. operand_at m y ≡ Some v) e (said_is m l ∙ a)
  reads m n Own v x a r = let e : temporary n ≡ x = cc in subst (λ y. operand_at m y ≡ Some v) e a.0

  -- ---- values held last, in their temporaries

  kept_under : (k : ℕ) (hs : List Hold) → all_kept (suc k) hs ≡ all_kept k (Kept ∷ hs)
  kept_under zero hs = refl
  kept_under (suc k) hs = ap (λ ks. Kept ∷ ks) (kept_under k hs)

  pub record Parted (m : Machine) (hs : List Hold) (k : ℕ) (held : List Value) : Type 0 where
    pub base : List Value
    pub last : List Value
    pub is : held ≡ base ++ last
    pub many : length last ≡ k
    pub holds : HoldsAll m.variables m.temporaries hs base
    pub read : variables_at m (temporaries (length hs) k) ≡ Some last

  pub parted : (m : Machine) (k : ℕ) (hs : List Hold) (held : List Value) → HoldsAll m.variables m.temporaries (all_kept k hs) held →
      Parted m hs k held
  parted m zero hs held a = record { base = held; last = []; is = sym (append-nil held); many = refl; holds = a; read = refl }
  parted m (suc k) hs held a =
      let r = parted m k (Kept ∷ hs) held (subst (λ ks. HoldsAll m.variables m.temporaries ks held) (kept_under k hs) a) in
      let o : Above (Has m.variables m.temporaries (length hs) Kept) (HoldsAll m.variables m.temporaries hs) r.base = r.holds in
      let here : slice_get m.temporaries (length hs) ≡ Some o.value = o.here in
      let more : variables_at m (temporaries (suc (length hs)) k) ≡ Some r.last = r.read in
      record {
        base = below_of r.base;
        last = o.value ∷ r.last;
        is = r.is ∙ ap (λ l. l ++ r.last) (stack_parts r.base o.value o.is) ∙ append_assoc (below_of r.base) (o.value ∷ []) r.last;
        many = ap suc r.many;
        holds = o.below;
        read = rw (here, more) refl;
      }

-- a stop takes so many values, held last
pub rest_takes : (action : Stop) (st : State) (base last : List Value) (k : ℕ) → st.held ≡ base ++ last → length last ≡ k →
    rest_at action k st ≡ Rests action last (holding st base) []
rest_takes action st base last k e n =
    let l : length st.held ≡ length base + k = ap length e ∙ length-append base last ∙ ap (λ j. length base + j) n in
    let f : length st.held - k ≡ length base = omega arith in
    let g : nat_le k (length st.held) ≡ true = le-leb k (length st.held) (omega arith) in
    let d : drop (length base) st.held ≡ last = ap (drop (length base)) e ∙ drop-append_seam base last in
    let t : take (length base) st.held ≡ base = ap (take (length base)) e ∙ take-append_seam base last in
    rw (f, g) (rw (d, t) refl)
