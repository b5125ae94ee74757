-- Stacks stay calls, and who is blocked rests where its status tells, entry by entry.
use Rattle.std.proofs.Common.{◌≡◌, ◌∙◌, ◌∷◌, ◌++◌, ◌<◌, ℕ, zero, suc, Bool, true, [], List, length, replicate, Option, Some, None}
use Rattle.std.proofs.Common.{refl, sym, ap, subst, arith}
use Rattle.std.proofs.lemmas.List.{append-nil, length-replicate}
use Rattle.std.specs.Prelude.{slice_set}
use Rattle.ec_base.proofs.Lists.{get_within, length_set}
use Rattle.ec_base.proofs.Stacks.{top_of-push}
use Rattle.ec_base.specs.Stack.{below_of, top_of}
use Rattle.ec_world.specs.declared.class.ClassNo.TheVariants.{Program}
use Rattle.ec_world.specs.declared.class.ClassRec.{ClassRec}
use Rattle.ec_world.specs.declared.common.Common.{Common}
use Rattle.ec_world.specs.declared.doing.Outcome.{Outcome}
use Rattle.ec_world.specs.declared.doing.Section.{Section}
use Rattle.ec_world.specs.declared.object.ObjectRec.{ObjectRec}
use Rattle.ec_world.specs.declared.process.Proc.{Proc}
use Rattle.ec_world.specs.declared.process.ProcStatus.{ProcStatus}
use Rattle.ec_world.specs.declared.process.ProcStatus.TheVariants.{Ready}
use Rattle.ec_world.specs.declared.stop.Effect.{Effect}
use Rattle.ec_world.specs.declared.stop.Effect.TheVariants.{GoesOn, Calls as CallsFor, Leaves, Blocks, Ends, Fails}
use Rattle.ec_world.specs.declared.run.RunEntry.{RunEntry}
use Rattle.ec_world.specs.declared.stop.Queue.{Queue}
use Rattle.ec_world.specs.declared.stop.Queue.TheVariants.{ForEntry, ForCondition, Urgently}
use Rattle.ec_world.specs.declared.stop.Stop.{Stop}
use Rattle.ec_world.specs.declared.stop.Who.{Who}
use Rattle.ec_world.specs.declared.doing.Doing.{Doing}
use Rattle.ec_world.specs.declared.value.ValueType.{ValueType}
use Rattle.ec_world.specs.declared.value.Value.{Value}
use Rattle.ec_world.specs.declared.world.World.{World}
use Rattle.ec_world.specs.Doings.{doing_of, runs_inside}
use Rattle.ec_world.specs.Follows.{IsKept}
use Rattle.ec_world.specs.Meaning.{ActivationMeaning}
use Rattle.ec_world.specs.Objects.{object_at}
use Rattle.ec_world.specs.Outcomes.{Done, all_granted, done}
use Rattle.ec_world.specs.Run.{after_entries, first_world, node_object, program_object}
use Rattle.ec_world.specs.Sights.{class_of, sight_of}
use Rattle.ec_world.specs.World.{Action, advanced, all_readied, begun_for, changed, owns_of, settled, stack_at, waiting, who_of}
use Rattle.ec_reached.proofs.Calling.{IsTheSame, calls_below, calls_later, calls_left, calls_push, calls_top, done_same}
use Rattle.ec_reached.proofs.Calling.{lowest_below, lowest_later, lowest_left, lowest_push, lowest_top, rests_later}
use Rattle.ec_reached.proofs.Doing.{does, given_classes}
use Rattle.ec_reached.proofs.Effects.{BlocksAt, EffectFits, IsSection, SectionFits, effect_fits, started_fits}
use Rattle.ec_reached.proofs.Later.{Later, Stays, class_stays, later_then, same_later, stays_by}
use Rattle.ec_reached.proofs.Objects.{added_here}
use Rattle.ec_reached.proofs.Procs.{EachAt, all_length, each_push, each_readied, each_set}
use Rattle.ec_reached.proofs.Steps.{Acting, by_action, by_entries, by_move, by_silent, is_there}
use Rattle.ec_reached.specs.Meant.{IsDone, StaysItself, StepsStay, is_entry}
use Rattle.ec_reached.specs.Stacks.{Begins, Calls, EachCalls, IsCalled, IsLeft, IsOfSection, LowestBegins, RestsAs, StackFits, WaitsAt, class_on}
use Rattle.ec_reached.specs.Stacks.{is_signal, is_wait}

module _ {A : Type 0} (M : ActivationMeaning A) where
  -- both, of a process and its number
  pub record Fits (c : Common) (q : ℕ) (proc : Proc A) : Type 0 where
    pub stack : StackFits M c q proc
    pub rests : RestsAs M c proc.status (top_of proc.activations)

  pub fits_later : (c d : Common) → Later c d → (q : ℕ) (proc : Proc A) → Fits c q proc → Fits d q proc
  fits_later c d l q proc h = record {
    stack = record {
      calls = calls_later M c d l proc.activations h.stack.calls;
      lowest = lowest_later M c d l q proc.activations h.stack.lowest;
      left = h.stack.left;
    };
    rests = rests_later M c d l proc.status (top_of proc.activations) h.rests;
  }

  -- once it is Ready
  fits_ready : (c : Common) (q : ℕ) (proc : Proc A) → Fits c q proc → Fits c q (record proc { status = Ready })
  fits_ready c q proc h = record { stack = record { calls = h.stack.calls; lowest = h.stack.lowest; left = tt }; rests = tt }

  -- ---- the process that acts

  module _ (stays : StaysItself M) (c : Common) (p : ℕ) (below : List A) (top : A) (calls : EachCalls M c (below ++ top ∷ []))
      (lowest : LowestBegins M c p (below ++ top ∷ [])) where
    idle : (given : Option Value) → IsTheSame M c top (M.finished top given)
    idle given = done_same M c top (M.finished top given) (stays.finished top given)

    is_done : (given : Option Value) → IsDone M top (M.finished top given)
    is_done given = stays.finished top given

    -- it waits for what it called
    waits_for : (d : Common) (op own : ℕ) (args : List Value) → IsCalled d (M.stop top) (M.operands top) op own →
        Calls M d (M.finished top None) (M.begun op own args)
    waits_for d op own args h =
        let f = is_done None in
        let b : A = M.begun op own args in
        let n = stays.begun op own args in
        record {
          done = f.done;
          called =
              subst (λ t. IsCalled d t (M.operands (M.finished top None)) (M.operation b) (M.own b)) (sym f.stop)
              (subst (λ vs. IsCalled d (M.stop top) vs (M.operation b) (M.own b)) (sym f.operands)
              (subst (λ x. IsCalled d (M.stop top) (M.operands top) x (M.own b)) (sym n.operation)
              (subst (λ x. IsCalled d (M.stop top) (M.operands top) op x) (sym n.own) h)));
        }

    waits_at : (d : Common) (at : Stop → Bool) (own : ℕ) → own ≡ M.own top → at (M.stop top) ≡ true →
        runs_inside (class_on d (M.own top)) (M.operation top) ≡ true → WaitsAt M d at own (top_of (below ++ M.finished top None ∷ []))
    waits_at d at own e stands within =
        let f = is_done None in
        record {
          of = M.finished top None;
          is_top = top_of-push below (M.finished top None);
          own = f.own ∙ sym e;
          within =
              subst (λ x. runs_inside (class_on d x) (M.operation (M.finished top None)) ≡ true) (sym f.own)
              (subst (λ x. runs_inside (class_on d (M.own top)) x ≡ true) (sym f.operation) within);
          done = f.done;
          stands = ap at f.stop ∙ stands;
        }

    rests_at : (d : Common) (queue : Queue) (own : ℕ) → BlocksAt d (who_of M p below top) (M.stop top) queue own →
        RestsAs M d (waiting queue own) (top_of (below ++ M.finished top None ∷ []))
    rests_at d ForEntry own h = waits_at d is_entry own h.own_is h.stands h.within
    rests_at d ForCondition own h = waits_at d is_wait own h.own_is h.stands h.within
    rests_at d Urgently own h = waits_at d is_signal own h.own_is h.stands h.within

    blocked_left : (queue : Queue) (own : ℕ) (all : List A) → IsLeft (waiting queue own) all
    blocked_left ForEntry own all = tt
    blocked_left ForCondition own all = tt
    blocked_left Urgently own all = tt

    module _ (d : Common) (l : Later c d) where
      done_fits : (given : Option Value) (s : ProcStatus) → IsLeft s (below ++ M.finished top given ∷ []) →
          RestsAs M d s (top_of (below ++ M.finished top given ∷ [])) →
          Fits d p (record { activations = below ++ M.finished top given ∷ []; status = s })
      done_fits given s left rests = record {
        stack = record {
          calls = calls_later M c d l (below ++ M.finished top given ∷ []) (calls_top M c below top (M.finished top given) (idle given) calls);
          lowest =
              lowest_later M c d l p (below ++ M.finished top given ∷ [])
              (lowest_top M c p below top (M.finished top given) (idle given) lowest);
          left = left;
        };
        rests = rests;
      }

      -- once an action is done
      pub changed_fits : (e : Effect) → EffectFits d (who_of M p below top) (M.stop top) (M.operands top) e →
          Fits d p (changed M below top e)
      changed_fits (GoesOn given) h = done_fits given Ready tt tt
      changed_fits (CallsFor op own args) h =
          let f = done_fits None Ready tt tt in
          record {
            stack = record {
              calls =
                  calls_push M d below (M.finished top None) (M.begun op own args) f.stack.calls (waits_for d op own args h);
              lowest = lowest_push M d p below (M.finished top None) (M.begun op own args) f.stack.lowest;
              left = tt;
            };
            rests = tt;
          }
      changed_fits (Leaves given) h = record {
        stack = record {
          calls = calls_left M d stays given below (calls_later M c d l below (calls_below M c below top calls));
          lowest = lowest_left M d stays given p below (lowest_later M c d l p below (lowest_below M c p below top lowest));
          left = tt;
        };
        rests = tt;
      }
      changed_fits (Blocks queue own) h =
          done_fits None (waiting queue own) (blocked_left queue own (below ++ M.finished top None ∷ [])) (rests_at d queue own h)
      changed_fits Ends h = record { stack = record { calls = tt; lowest = tt; left = refl }; rests = tt }
      changed_fits (Fails why line) h = record { stack = record { calls = tt; lowest = tt; left = refl }; rests = tt }

  -- ---- a new process

  begins_second : (c : Common) (n : ℕ) (a : A) → 0 < n → IsOfSection M c a → Begins M c n a
  begins_second c zero a h s = absurd (omega arith)
  begins_second c (suc n) a h s = s

  module _ (stays : StaysItself M) where
    section_begins : (d : Common) (s : Section) → IsSection d s → IsOfSection M d (M.begun s.operation s.own [])
    section_begins d s h =
        let n = stays.begun s.operation s.own [] in
        record {
          of = h.of;
          is = ap (class_on d) n.own ∙ h.is;
          section = h.section ∙ ap Some (sym n.operation);
        }

    begun_fits : (d : Common) (ps : List (Proc A)) (started : Option Section) → 0 < length ps → SectionFits d started →
        EachAt (Fits d) ps → EachAt (Fits d) (ps ++ begun_for M started)
    begun_fits d ps None some h all = subst (λ qs. EachAt (Fits d) qs) (sym (append-nil ps)) all
    begun_fits d ps (Some s) some h all =
        each_push (Fits d) ps (record { activations = M.begun s.operation s.own [] ∷ []; status = Ready }) all
        (record {
          stack = record {
            calls = tt;
            lowest = begins_second d (length ps) (M.begun s.operation s.own []) some (section_begins d s h);
            left = tt;
          };
          rests = tt;
        })

    section_later : (c d : Common) → Later c d → (s : Option Section) → SectionFits c s → SectionFits d s
    section_later c d l None h = tt
    section_later c d l (Some s) h = record { of = h.of; is = class_stays c d l s.own h.of h.is; section = h.section }

    -- ---- actions

    -- what an action makes of what processes share, and of processes
    record Facts (c : Common) (who : Who) (it : Stop) (vs : List Value) (x : Done) : Type 0 where
      pub later : Later c x.0
      pub effect : EffectFits x.0 who it vs x.1.effect
      pub started : SectionFits x.0 x.1.started

    facts : (c : Common) (who : Who) (it : Stop) (vs : List Value) (doing : Doing) → doing_of (sight_of c) who it vs ≡ Some doing →
        Facts c who it vs (done c who doing)
    facts c who it vs doing e = record {
      later = (does c who doing).later;
      effect = effect_fits c who it vs doing e;
      started = started_fits c who it vs doing e;
    }

    abbrev pub HasStacks : World A → Type 0
    HasStacks w = EachAt (Fits w.common) w.processes

    settled_fits : (w : World A) (p : ℕ) → HasStacks w → (a : Acting M w p) (d : Common) (o : Outcome) →
        Facts w.common (who_of M p (below_of (stack_at w p)) a.top) (M.stop a.top) (M.operands a.top) (d, o) →
        (g : List ObjectRec × List ℕ) → Stays d.objects g.0 → HasStacks (settled M w p (below_of (stack_at w p)) a.top d o g)
    settled_fits w p h a d o f (objects, freed) s =
        let below = below_of (stack_at w p) in
        let new : Common = record d { objects = objects } in
        let after : Later d new = later_then d d objects (same_later d) s in
        let all : Later w.common new = later_then w.common d objects f.later s in
        let there = is_there w p a.top a.is_top in
        let was = h p there.proc there.there in
        let ps : List (Proc A) = slice_set w.processes p (changed M below a.top o.effect) in
        let mine : Fits d p (changed M below a.top o.effect) =
        changed_fits stays w.common p below a.top (subst (λ xs. EachCalls M w.common xs) there.all was.stack.calls)
        (subst (λ xs. LowestBegins M w.common p xs) there.all was.stack.lowest) d f.later o.effect f.effect in
        let some : 0 < length (all_readied ps (all_granted o.granted freed)) =
        (let n = all_length ps (all_granted o.granted freed) in let k = length_set w.processes p (changed M below a.top o.effect) in
        let i = get_within w.processes p there.proc there.there in omega arith) in
        begun_fits new (all_readied ps (all_granted o.granted freed)) o.started some (section_later d new after o.started f.started)
        (each_readied (Fits new) (fits_ready new) ps (all_granted o.granted freed)
        (each_set (Fits new) w.processes p (changed M below a.top o.effect)
        (λ q proc n e. fits_later w.common new all q proc (h q proc e))
        (fits_later d new after p (changed M below a.top o.effect) mine)))

    pub action_fits : (w : World A) (p : ℕ) → HasStacks w → HasStacks (Action M w p)
    action_fits w p h =
        by_action M w p HasStacks h
        (λ a d o e g k.
        let who = who_of M p (below_of (stack_at w p)) a.top in
        settled_fits w p h a d o
        (subst (λ x. Facts w.common who (M.stop a.top) (M.operands a.top) x) e
        (facts w.common who (M.stop a.top) (M.operands a.top) a.doing a.asks)) g
        (stays_by d.objects g.0
        (λ x.
        subst (λ (t : List ObjectRec × List ℕ). class_of (object_at t.0 x) ≡ class_of (object_at d.objects x)) k
        (given_classes p (owns_of M (below_of (stack_at w p)) a.top) o.effect d.objects x))))

    -- ---- silent steps

    record StepFacts (c : Common) (a : A) (x : Common × A) : Type 0 where
      pub later : Later c x.0
      pub same : IsTheSame M c a x.1

    module _ (advance : Common → A → Common × A) (steps : StepsStay M advance) where
      step_facts : (c : Common) (a : A) → StepFacts c a (advance c a)
      step_facts c a = record {
        later = record {
          nodes = steps.nodes c a;
          classes = steps.classes c a;
          objects = stays_by c.objects (advance c a).0.objects (steps.objects c a);
        };
        same = record { operation = steps.operation c a; own = steps.own c a };
      }

      advanced_fits : (w : World A) (p : ℕ) → HasStacks w → (top : A) → top_of (stack_at w p) ≡ Some top → (x : Common × A) →
          StepFacts w.common top x → HasStacks (advanced M advance w p (below_of (stack_at w p)) x)
      advanced_fits w p h top is (c, new) f =
          let below = below_of (stack_at w p) in
          let there = is_there w p top is in
          let was = h p there.proc there.there in
          each_set (Fits c) w.processes p (record { activations = below ++ new ∷ []; status = Ready })
          (λ q proc n e. fits_later w.common c f.later q proc (h q proc e))
          (record {
            stack = record {
              calls =
                  calls_later M w.common c f.later (below ++ new ∷ [])
                  (calls_top M w.common below top new f.same (subst (λ xs. EachCalls M w.common xs) there.all was.stack.calls));
              lowest =
                  lowest_later M w.common c f.later p (below ++ new ∷ [])
                  (lowest_top M w.common p below top new f.same (subst (λ xs. LowestBegins M w.common p xs) there.all was.stack.lowest));
              left = tt;
            };
            rests = tt;
          })

      pub kept : IsKept M advance HasStacks
      kept = record {
        acts = action_fits;
        goes = λ w p h.
            by_silent M w p HasStacks h advance
            (λ top is done x e. advanced_fits w p h top is x (subst (λ y. StepFacts w.common top y) e (step_facts w.common top)));
        moves = λ w o k h.
            by_move M w HasStacks h
            (λ events q proc e.
            fits_later w.common (record w.common { events = events })
            (record { nodes = refl; classes = refl; objects = λ x c i. i }) q proc (h q proc e)) o k;
      }

      -- ---- runs

      own_object : (n : ℕ) → class_of (object_at (replicate n node_object ++ program_object ∷ []) (suc n)) ≡ Some Program
      own_object n =
          subst (λ m. class_of (object_at (replicate n node_object ++ program_object ∷ []) (suc m)) ≡ Some Program)
          (length-replicate n node_object) (ap class_of (added_here (replicate n node_object) program_object))

      pub first_fits : (n : ℕ) (classes : List ClassRec) (globals : List ValueType) → HasStacks (first_world M n classes globals)
      first_fits n classes globals zero proc e =
          let b = stays.begun 0 (suc n) [] in
          let first : Proc A = record { activations = M.begun 0 (suc n) [] ∷ []; status = Ready } in
          subst (λ q. Fits (first_world M n classes globals).common 0 q)
          (let same : first ≡ proc = cc in same)
          (record {
            stack = record {
              calls = tt;
              lowest = record { operation = b.operation; own = b.own; class = own_object n };
              left = tt;
            };
            rests = tt;
          })
      first_fits n classes globals (suc q) proc e = absurd cc

      pub runs_fit : (n : ℕ) (classes : List ClassRec) (globals : List ValueType) (es : List RunEntry) →
          HasStacks (after_entries M advance (first_world M n classes globals) es)
      runs_fit n classes globals es =
          by_entries M advance HasStacks kept (first_world M n classes globals) es (first_fits n classes globals)
