-- Stops that take what is held in the highest temporaries, and single steps that write the next one.
use Rattle.std.proofs.Common.{◌≡◌, ℕ, zero, suc, ◌<◌, ◌≤◌, inl, inr, Bool, true, false, List, [], ◌∷◌, ◌++◌, length}
use Rattle.std.proofs.Common.{Option, Some, None, refl, sym, subst, arith}
use Rattle.std.specs.List.{AllByRecursion as Each}
use Rattle.ec_code.specs.Fine.{IsIn}
use Rattle.ec_code.specs.declared.code.Op.{Op}
use Rattle.ec_code.specs.declared.code.Op.TheVariants as op
use Rattle.ec_code.specs.declared.code.Variable.{Variable}
use Rattle.ec_code.specs.declared.code.Variable.TheVariants.{Temporary}
use Rattle.ec_types.specs.declared.conform.static_type.StaticType.{StaticType}
use Rattle.ec_emission.specs.Expressions.{gives_result}
use Rattle.ec_runnable.proofs.Uses.{AreHeld, From, IsAbove, IsClearStep, IsHeld, Leads, Within, below}
use Rattle.ec_runnable.proofs.Uses.{but_for, but_for_held, but_for_written, each_joined, each_weaker}
use Rattle.ec_runnable.proofs.Uses.{temporaries_in, uses_at, uses_of}
use Rattle.ec_code.specs.Live.{InOrder, IsBefore, reads}
use Rattle.ec_emission.specs.Rows.{bare_row, into_if, own_row, rest_row, temporaries}
use Rattle.ec_world.specs.declared.stop.Stop.{Stop}

-- so many values held above others
abbrev pub above : List Bool → ℕ → List Bool
above hs zero = hs
above hs (suc n) = above (true ∷ hs) n

pub within_above : (n : ℕ) (hs : List Bool) → Within hs (above hs n)
within_above zero hs d h = h
within_above (suc n) hs d h = within_above n (true ∷ hs) d (inr h)

-- ---- temporaries one above the other

all_above : (n : ℕ) (hs : List Bool) → AreHeld (above hs n) (temporaries_in (temporaries (length hs) n))
all_above zero hs = tt
all_above (suc n) hs = (within_above n (true ∷ hs) (length hs) (inl refl), all_above n (true ∷ hs))

later : (n h d : ℕ) → d < h → (y : Variable) → IsIn y (temporaries h n) → IsBefore (Temporary d) y
later zero h d l y i = absurd i
later (suc n) h d l y (inl e) = subst (IsBefore (Temporary d)) (sym e) l
later (suc n) h d l y (inr i) = later n (suc h) d (omega arith) y i

temporaries_in_order : (n h : ℕ) → InOrder (temporaries h n)
temporaries_in_order zero h = tt
temporaries_in_order (suc n) h = (later n (suc h) h (omega arith), temporaries_in_order n (suc h))

lower : (us : List ℕ) (h k : ℕ) → h ≤ k → Each (λ d. d < h) us → Each (λ d. d < k) us
lower us h k l e = each_weaker (λ d. d < h) (λ d. d < k) (λ d m. omega arith) us e

all_higher : (us : List ℕ) (n h : ℕ) → Each (λ d. d < h) us → Each (IsAbove us) (temporaries h n)
all_higher us zero h l = tt
all_higher us (suc n) h l = (l, all_higher us n (suc h) (lower us h (suc h) (omega arith) l))

-- ---- what a stop gives

given_held : (gives : Option StaticType) (hs : List Bool) (us : List ℕ) → AreHeld (gives_result gives ∷ hs) us →
    AreHeld hs (but_for_written (into_if gives (length hs)) us)
given_held None hs us h = h
given_held (Some of) hs us h = but_for_held (IsHeld hs) (length hs) us h

all_lower : (hs : List Bool) (us : List ℕ) → AreHeld hs us → Each (λ d. d < length hs) us
all_lower hs us h = each_weaker (IsHeld hs) (λ d. d < length hs) (below hs) us h

-- ---- stops

module _ (hs : List Bool) (action : Stop) (takes : ℕ) (gives : Option StaticType) where
  left_held : (uss : List (List ℕ)) → From (gives_result gives ∷ hs) uss →
      AreHeld hs (but_for_written (into_if gives (length hs)) (uses_at uss 0))
  left_held uss b = given_held gives hs (uses_at uss 0) b

  -- with operands right above what is held
  pub rests : Leads (op.Rest (rest_row action (length hs) takes gives) ∷ []) (above hs takes) (gives_result gives ∷ hs)
  rests = record {
    stands = record {
      held = λ uss b.
          each_joined (IsHeld (above hs takes)) _ _ (all_above takes hs)
          (each_weaker (IsHeld hs) (IsHeld (above hs takes)) (within_above takes hs) _ (left_held uss b));
      clear = λ all place uss e b. (
        record {
          in_order = temporaries_in_order takes (length hs);
          above = λ s. all_higher _ takes (length hs) (all_lower hs _ (left_held uss b));
        },
        tt,
      );
    };
  }

  -- and on the own object
  pub own_rests : Leads (op.Rest (own_row action (length hs) takes gives) ∷ []) (above hs takes) (gives_result gives ∷ hs)
  own_rests = record {
    stands = record {
      held = λ uss b.
          each_joined (IsHeld (above hs takes)) _ _ (all_above takes hs)
          (each_weaker (IsHeld hs) (IsHeld (above hs takes)) (within_above takes hs) _ (left_held uss b));
      clear = λ all place uss e b. (
        record {
          in_order = temporaries_in_order takes (length hs);
          above = λ s. all_higher _ takes (length hs) (all_lower hs _ (left_held uss b));
        },
        tt,
      );
    };
  }

-- a stop that takes nothing and gives nothing
pub bare_rests : (hs : List Bool) (action : Stop) → Leads (op.Rest (bare_row action) ∷ []) hs hs
bare_rests hs action = record {
  stands = record { held = λ uss b. b; clear = λ all place uss e b. (record { in_order = tt; above = λ s. tt }, tt) };
}

-- ---- one step that writes the next temporary

-- what is read is held where a step stands, and so is what is held below what it writes
pub writes_next : (hs ks : List Bool) (o : Op) → Within hs ks → AreHeld ks (temporaries_in (reads o)) →
    ((uss : List (List ℕ)) → uses_of o uss ≡ temporaries_in (reads o) ++ but_for (length hs) (uses_at uss 0)) →
    ((all : List (List ℕ)) (place : ℕ) (uss : List (List ℕ)) → IsClearStep all place o uss) → Leads (o ∷ []) ks (true ∷ hs)
writes_next hs ks o within read is clear = record {
  stands = record {
    held = λ uss b.
        subst (AreHeld ks) (sym (is uss))
        (each_joined (IsHeld ks) (temporaries_in (reads o)) _ read
        (each_weaker (IsHeld hs) (IsHeld ks) within _ (but_for_held (IsHeld hs) (length hs) (uses_at uss 0) b)));
    clear = λ all place uss e b. (clear all place uss, tt);
  };
}
