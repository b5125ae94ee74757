-- The lines of objects, one after the other.
use Rattle.std.proofs.Common.{◌≡◌, ℕ, zero, suc, ◌+◌, ◌≤◌, true, false, List, [], ◌∷◌, ◌++◌, length, drop, Some, None, sym, ap, ◌∙◌}
use Rattle.std.proofs.Common.{arith, append_assoc, append-nil, add-one}
use Rattle.std.proofs.lemmas.List.{drop_all}
use Rattle.std.specs.Prelude.{slice_get}
use Rattle.ec_base.proofs.Lists.{drop_at}
use Rattle.ec_world.specs.declared.class.ClassNo.{ClassNo}
use Rattle.ec_world.specs.declared.node.NodeSpec.{NodeSpec}
use Rattle.ec_world.specs.declared.object.ObjectRec.{ObjectRec}
use Rattle.ec_world.specs.declared.world.World.{World}
use Rattle.ec_world.specs.Objects.{object_at}
use Rattle.ec_world.specs.Places.{places, place_in}
use Rattle.ec_report.specs.Report.{object_line, node_at, object_lines}
use Rattle.ec_report.specs.ObjectLines.{RestOfObjects, PushesObject}

past : {A : Type 0} (xs : List A) (i : ℕ) → slice_get xs i ≡ None → length xs ≤ i
past [] i e = omega arith
past (x ∷ xs) zero e = cc
past (x ∷ xs) (suc i) e = let h = past xs i e in omega arith

module _ (name : ClassNo → List ℕ) (specs : List NodeSpec) (at : List ℕ) (objects : List ObjectRec) (b : ℕ) where
  line_step : (o : ObjectRec) (old new whole : List ℕ) → slice_get objects b ≡ Some o →
      old ++ object_lines name specs at (suc b) (drop b objects) ≡ whole →
      new ≡ old ++ object_line (suc b) (name o.class) (node_at specs (place_in at (suc b))) o.fixed →
      new ++ object_lines name specs at (suc (suc b)) (drop (suc b) objects) ≡ whole
  line_step o old new whole e h n =
      let d : drop b objects ≡ o ∷ drop (suc b) objects = drop_at objects b o e ∙ ap (λ (k : ℕ). o ∷ drop k objects) (add-one b) in
      let k = rw d at h in
      rw (n, append_assoc) k

  line_end : (old new whole : List ℕ) → slice_get objects b ≡ None →
      old ++ object_lines name specs at (suc b) (drop b objects) ≡ whole → new ≡ old → new ≡ whole
  line_end old new whole e h n =
      let d : drop b objects ≡ [] = drop_all b objects (past objects b e) in
      let k : old ++ [] ≡ whole = rw d at h in
      n ∙ sym (append-nil old) ∙ k

module _ {A : Type 0} (name : ClassNo → List ℕ) (w : World A) (specs : List NodeSpec) (oid : ℕ) (old new whole : List ℕ)
    (r : RestOfObjects name w specs oid old whole) where
  pub rest_next : PushesObject name w specs oid old new true → RestOfObjects name w specs (oid + 1) new whole
  rest_next p =
      let e : object_at w.common.objects (suc r.before) ≡ Some p.0 = rw r.oid_is at p.1 in
      let h = rw r.oid_is at r.rest in
      let n = rw r.oid_is at p.2 in
      let at = places w.common.nodes w.common.events in
      let s = line_step name specs at w.common.objects r.before p.0 old new whole e h n in
      let o : oid + 1 ≡ suc (suc r.before) = add-one oid ∙ ap suc r.oid_is in
      record { before = suc r.before; oid_is = o; rest = rw o s }

  pub rest_done : PushesObject name w specs oid old new false → new ≡ whole
  rest_done p =
      let e : object_at w.common.objects (suc r.before) ≡ None = rw r.oid_is at p.0 in
      let h = rw r.oid_is at r.rest in
      line_end name specs (places w.common.nodes w.common.events) w.common.objects r.before old new whole e h p.1
