-- What is told by each arm is what is promised.
use Rattle.std.proofs.Common.{◌≡◌, ◌∷◌, [], ℕ, List, length, Option, Some, ap, ◌∙◌, subst, sym}
use Rattle.std.specs.Prelude.{IfOk, option_copied, replicate, slice_get}
use Rattle.ec_cluster.specs.Cluster.{CodeWorld, place, stores}
use Rattle.ec_cluster.specs.Frames.{RestsIn, tables_on}
use Rattle.ec_code.specs.Typing.{Declared}
use Rattle.ec_code.specs.declared.activation.CodeActivation.{CodeActivation}
use Rattle.ec_fullness.proofs.Verdicts.{answers_define, answers_make, answers_pass, answers_return, answers_start, answers_store}
use Rattle.ec_fullness.proofs.Verdicts.{answers_vector, fits_by, full_by, nothing_asked, own_node, started, started_node, stored_node}
use Rattle.ec_fullness.proofs.Verdicts.{top_entry, top_own}
use Rattle.ec_base.specs.Stack.{top_of}
use Rattle.ec_fullness.proofs.fullness.fullness.Goals as goal
use Rattle.ec_fullness.specs.Fullness.{StaysPut}
use Rattle.ec_fullness.specs.Told.{Tells, TellsOfAll, TellsOfMaking, TellsOfOne, taken}
use Rattle.ec_node_frames.specs.Beginning.{first_values}
use Rattle.ec_world.specs.Things.{class_blocks}
use Rattle.ec_world.specs.declared.room.Lack.{Lack}
use Rattle.ec_generate.specs.declared.table.OperationTable.{OperationTable}
use Rattle.ec_generate.specs.declared.table.StopEntry.{StopEntry}
use Rattle.ec_cluster.specs.Acting.{Asks}
use Rattle.ec_cluster.specs.Systems.{Runs}
use Rattle.ec_cluster.specs.declared.system.System.{System}
use Rattle.ec_things.specs.Store.{Store}
use Rattle.ec_world.specs.Objects.{class_at, element_kind}
use Rattle.ec_world.specs.Values.{default_of}
use Rattle.ec_world.specs.declared.class.ClassNo.TheVariants.{Vector}
use Rattle.ec_world.specs.declared.doing.Doing.{Doing}
use Rattle.ec_world.specs.declared.doing.Doing.TheVariants.{Passes, Defines, Stores, Makes, MakesVector, Invokes, Returns}
use Rattle.ec_world.specs.declared.process.Proc.{Proc}
use Rattle.ec_world.specs.declared.stop.Who.{Who}
use Rattle.ec_world.specs.declared.value.Value.{Value}

-- ---- what is told

abbrev ToldToTake : System → Who → Option Value → Option Lack → Type 0
ToldToTake s who given r =
    (d : Declared) (w : CodeWorld) (proc : Proc CodeActivation) (a : CodeActivation) (e : StopEntry) →
    RestsIn d s.cluster w who.process who.depth proc a e → a.own ≡ who.own → Tells s.cluster who.own 0 (taken e.result given) r

abbrev ToldBelow : System → Who → Option Value → Option Lack → Type 0
ToldBelow s who given r =
    (d : Declared) (w : CodeWorld) (below : List CodeActivation) (top : CodeActivation) (doing : Doing) → Runs d s w →
    Asks w below top who doing → TellsOfOne s.cluster (top_of below) given r

abbrev ToldToStart : System → ℕ → ℕ → List Value → Option Lack → Type 0
ToldToStart s op own args r =
    (k : ℕ) (x : Store) (table : OperationTable) → place s.cluster own ≡ Some k → stores s.cluster k ≡ Some x →
    slice_get (tables_on s.cluster x.kind) op ≡ Some table → Tells s.cluster own 1 (first_values table own args) r

-- ---- what is asked

pub lack_to_take-requires : goal.lack_to_take-requires
lack_to_take-requires c =
    let q = c.requires in
    let s = c.args.system.now in
    let e = top_entry q.declared s q.world q.below q.top c.args.who c.args.doing.now q.runs q.asks in (
      e.0,
      record {
        declared = q.declared;
        world = q.world;
        proc = q.asks.is_top.proc;
        activation = q.top;
        rests = e.1;
        owns = top_own q.declared s q.world q.below q.top c.args.who c.args.doing.now q.runs q.asks;
      },
    )

pub lack_at-requires : goal.lack_at-requires
lack_at-requires c =
    let q = c.requires in
    stored_node q.declared c.args.system.now q.world q.below q.top c.args.who c.args.doing.now q.runs q.asks c.in-Stores.vector _ _
    c.in-Stores.is

pub lack_to_make-requires : goal.lack_to_make-requires
lack_to_make-requires c =
    let q = c.requires in
    own_node q.declared c.args.system.now q.world q.below q.top c.args.who c.args.doing.now q.runs q.asks

pub lack_for_vector-requires : goal.lack_for_vector-requires
lack_for_vector-requires c =
    let q = c.requires in
    own_node q.declared c.args.system.now q.world q.below q.top c.args.who c.args.doing.now q.runs q.asks

pub lack_to_start-requires-clause-own : goal.lack_to_start-requires-clause-own
lack_to_start-requires-clause-own c =
    let q = c.requires in
    started_node q.declared c.args.system.now q.world q.below q.top c.args.who c.args.doing.now q.runs q.asks c.in-Invokes.op
    c.in-Invokes.own
    c.in-Invokes.args c.in-Invokes.is

pub lack_to_start-requires-clause-entry : goal.lack_to_start-requires-clause-entry
lack_to_start-requires-clause-entry c = λ kind.
    let q = c.requires in
    let x = started q.declared c.args.system.now q.world q.below q.top c.args.who c.args.doing.now q.runs q.asks c.in-Invokes.op
    c.in-Invokes.own c.in-Invokes.args c.in-Invokes.is in
    let t = x.table kind in
    (t.0, t.1, t.2)

pub unreachable-requires : goal.unreachable-requires
unreachable-requires c = subst (λ (x : Doing). StaysPut x) c.in-Moves.is c.requires.stays

-- ---- what is answered

pub returns-in-Passes-clause-full : goal.returns-in-Passes-clause-full
returns-in-Passes-clause-full c =
    let s = c.args.system.now in
    let who = c.args.who in
    let given = option_copied c.as_ref.result in
    full_by s who (Passes given) c.args.doing.now (ap Passes c.as_ref.ensures.value ∙ sym c.in-Passes.is) c.lack_to_take.result (λ r.
    ToldToTake s who given r) (λ r told. answers_pass s who r given told) c.lack_to_take.ensures

pub returns-in-Passes-clause-fits : goal.returns-in-Passes-clause-fits
returns-in-Passes-clause-fits c =
    let s = c.args.system.now in
    let who = c.args.who in
    let given = option_copied c.as_ref.result in
    fits_by s who (Passes given) c.args.doing.now (ap Passes c.as_ref.ensures.value ∙ sym c.in-Passes.is) c.lack_to_take.result (λ r.
    ToldToTake s who given r) (λ r told. answers_pass s who r given told) c.lack_to_take.ensures

pub returns-in-Defines-clause-full : goal.returns-in-Defines-clause-full
returns-in-Defines-clause-full c =
    let s = c.args.system.now in
    let who = c.args.who in
    let v = c.in-Defines.value in
    let index = c.in-Defines.index in
    full_by s who (Defines index v) c.args.doing.now (sym c.in-Defines.is) c.lack_anywhere.result (λ r. TellsOfAll s.cluster (v ∷ []) r)
    (λ r told. answers_define s who r index v told) c.lack_anywhere.ensures

pub returns-in-Defines-clause-fits : goal.returns-in-Defines-clause-fits
returns-in-Defines-clause-fits c =
    let s = c.args.system.now in
    let who = c.args.who in
    let v = c.in-Defines.value in
    let index = c.in-Defines.index in
    fits_by s who (Defines index v) c.args.doing.now (sym c.in-Defines.is) c.lack_anywhere.result (λ r. TellsOfAll s.cluster (v ∷ []) r)
    (λ r told. answers_define s who r index v told) c.lack_anywhere.ensures

pub returns-in-Stores-clause-full : goal.returns-in-Stores-clause-full
returns-in-Stores-clause-full c =
    let s = c.args.system.now in
    let who = c.args.who in
    let v = c.in-Stores.value in
    let index = c.in-Stores.index in
    let vector = c.in-Stores.vector in
    full_by s who (Stores vector index v) c.args.doing.now (sym c.in-Stores.is) c.lack_at.result (λ r. Tells s.cluster vector 0 (v ∷ [])
    r) (λ r told. answers_store s who r vector index v told)
    (subst (λ (vs : List Value). IfOk c.lack_at.result (λ r. Tells s.cluster vector 0 vs r)) c.from_ref.ensures.value c.lack_at.ensures)

pub returns-in-Stores-clause-fits : goal.returns-in-Stores-clause-fits
returns-in-Stores-clause-fits c =
    let s = c.args.system.now in
    let who = c.args.who in
    let v = c.in-Stores.value in
    let index = c.in-Stores.index in
    let vector = c.in-Stores.vector in
    fits_by s who (Stores vector index v) c.args.doing.now (sym c.in-Stores.is) c.lack_at.result (λ r. Tells s.cluster vector 0 (v ∷ [])
    r) (λ r told. answers_store s who r vector index v told)
    (subst (λ (vs : List Value). IfOk c.lack_at.result (λ r. Tells s.cluster vector 0 vs r)) c.from_ref.ensures.value c.lack_at.ensures)

pub returns-in-Makes-clause-full : goal.returns-in-Makes-clause-full
returns-in-Makes-clause-full c =
    let s = c.args.system.now in
    let who = c.args.who in
    let class = c.in-Makes.class in
    let given = c.in-Makes.given in
    full_by s who (Makes class given) c.args.doing.now (sym c.in-Makes.is) c.lack_to_make.result (λ r. TellsOfMaking s.cluster who.own
    class given (class_at s.cluster.parts.classes class) r) (λ r told. answers_make s who r class given told) c.lack_to_make.ensures

pub returns-in-Makes-clause-fits : goal.returns-in-Makes-clause-fits
returns-in-Makes-clause-fits c =
    let s = c.args.system.now in
    let who = c.args.who in
    let class = c.in-Makes.class in
    let given = c.in-Makes.given in
    fits_by s who (Makes class given) c.args.doing.now (sym c.in-Makes.is) c.lack_to_make.result (λ r. TellsOfMaking s.cluster who.own
    class given (class_at s.cluster.parts.classes class) r) (λ r told. answers_make s who r class given told) c.lack_to_make.ensures

pub returns-in-MakesVector-clause-full : goal.returns-in-MakesVector-clause-full
returns-in-MakesVector-clause-full c =
    let s = c.args.system.now in
    let who = c.args.who in
    let of = c.in-MakesVector.of in
    let size = c.in-MakesVector.size in
    let elements : List Value = replicate size (default_of (element_kind of)) in
    full_by s who (MakesVector of size) c.args.doing.now (sym c.in-MakesVector.is) c.lack_for_vector.result (λ r. Tells s.cluster who.own
    (class_blocks (Vector of) (length elements)) elements r) (λ r told. answers_vector s who r of size told) c.lack_for_vector.ensures

pub returns-in-MakesVector-clause-fits : goal.returns-in-MakesVector-clause-fits
returns-in-MakesVector-clause-fits c =
    let s = c.args.system.now in
    let who = c.args.who in
    let of = c.in-MakesVector.of in
    let size = c.in-MakesVector.size in
    let elements : List Value = replicate size (default_of (element_kind of)) in
    fits_by s who (MakesVector of size) c.args.doing.now (sym c.in-MakesVector.is) c.lack_for_vector.result (λ r. Tells s.cluster who.own
    (class_blocks (Vector of) (length elements)) elements r) (λ r told. answers_vector s who r of size told) c.lack_for_vector.ensures

pub returns-in-Invokes-clause-full : goal.returns-in-Invokes-clause-full
returns-in-Invokes-clause-full c =
    let s = c.args.system.now in
    let who = c.args.who in
    let op = c.in-Invokes.op in
    let own = c.in-Invokes.own in
    let args = c.in-Invokes.args in
    full_by s who (Invokes op own args) c.args.doing.now (sym c.in-Invokes.is) c.lack_to_start.result (λ r. ToldToStart s op own args r)
    (λ r told. answers_start s who r op own args told)
    (subst (λ (vs : List Value). IfOk c.lack_to_start.result (λ r. ToldToStart s op own vs r)) c.as_slice.ensures c.lack_to_start.ensures)

pub returns-in-Invokes-clause-fits : goal.returns-in-Invokes-clause-fits
returns-in-Invokes-clause-fits c =
    let s = c.args.system.now in
    let who = c.args.who in
    let op = c.in-Invokes.op in
    let own = c.in-Invokes.own in
    let args = c.in-Invokes.args in
    fits_by s who (Invokes op own args) c.args.doing.now (sym c.in-Invokes.is) c.lack_to_start.result (λ r. ToldToStart s op own args r)
    (λ r told. answers_start s who r op own args told)
    (subst (λ (vs : List Value). IfOk c.lack_to_start.result (λ r. ToldToStart s op own vs r)) c.as_slice.ensures c.lack_to_start.ensures)

pub returns-in-Returns-clause-full : goal.returns-in-Returns-clause-full
returns-in-Returns-clause-full c =
    let s = c.args.system.now in
    let who = c.args.who in
    let given = option_copied c.as_ref-in-Returns.result in
    let leaves = c.in-Returns.leaves in
    let section = c.in-Returns.section in
    full_by s who (Returns given leaves section) c.args.doing.now (ap (λ (g : Option Value). Returns g leaves section)
    c.as_ref-in-Returns.ensures.value ∙ sym c.in-Returns.is) c.lack_below.result (λ r. ToldBelow s who given r) (λ r told. answers_return
    s who r given leaves section told) c.lack_below.ensures

pub returns-in-Returns-clause-fits : goal.returns-in-Returns-clause-fits
returns-in-Returns-clause-fits c =
    let s = c.args.system.now in
    let who = c.args.who in
    let given = option_copied c.as_ref-in-Returns.result in
    let leaves = c.in-Returns.leaves in
    let section = c.in-Returns.section in
    fits_by s who (Returns given leaves section) c.args.doing.now (ap (λ (g : Option Value). Returns g leaves section)
    c.as_ref-in-Returns.ensures.value ∙ sym c.in-Returns.is) c.lack_below.result (λ r. ToldBelow s who given r) (λ r told. answers_return
    s who r given leaves section told) c.lack_below.ensures

pub returns-in-Prints-clause-fits : goal.returns-in-Prints-clause-fits
returns-in-Prints-clause-fits c = nothing_asked c.args.system.now c.args.who c.args.doing.now c.in-Prints.is

pub returns-in-Prints-2-clause-fits : goal.returns-in-Prints-2-clause-fits
returns-in-Prints-2-clause-fits c = nothing_asked c.args.system.now c.args.who c.args.doing.now c.in-Prints.is

pub returns-in-Prints-3-clause-fits : goal.returns-in-Prints-3-clause-fits
returns-in-Prints-3-clause-fits c = nothing_asked c.args.system.now c.args.who c.args.doing.now c.in-Prints.is

pub returns-in-Prints-4-clause-fits : goal.returns-in-Prints-4-clause-fits
returns-in-Prints-4-clause-fits c = nothing_asked c.args.system.now c.args.who c.args.doing.now c.in-Prints.is

pub returns-in-Prints-5-clause-fits : goal.returns-in-Prints-5-clause-fits
returns-in-Prints-5-clause-fits c = nothing_asked c.args.system.now c.args.who c.args.doing.now c.in-Prints.is

pub returns-in-Prints-6-clause-fits : goal.returns-in-Prints-6-clause-fits
returns-in-Prints-6-clause-fits c = nothing_asked c.args.system.now c.args.who c.args.doing.now c.in-Prints.is

pub returns-in-Prints-7-clause-fits : goal.returns-in-Prints-7-clause-fits
returns-in-Prints-7-clause-fits c = nothing_asked c.args.system.now c.args.who c.args.doing.now c.in-Prints.is
