-- The parts of a part that is ready are ready, and what is shown of them.
use Rattle.std.proofs.Common.{◌≡◌, true, List, [], ◌∷◌, ◌++◌, map, Option, Some, None, subst}
use Rattle.std.specs.Prelude.{Contains}
use Rattle.ec_ast.specs.declared.Name.{Name}
use Rattle.ec_ast.specs.declared.TypeName.{TypeName}
use Rattle.ec_check.proofs.CapturedNames.{outside_joined}
use Rattle.ec_check.proofs.Every.{Every, every_joined, every_left, every_right, none_left, none_right}
use Rattle.ec_check.proofs.KnownTypes.{test_holds}
use Rattle.ec_check.proofs.ReachedNames.{IsReached}
use Rattle.ec_check.proofs.WellParts.{Ready, Well, WellPart, AreWell}
use Rattle.ec_check.proofs.WellValues.{IsValue, Values, value_goes_in}
use Rattle.ec_check.specs.Parts.{Made, Part, both_made}
use Rattle.ec_check.specs.Places.{Env, type_or}
use Rattle.ec_check.specs.Resolving.{all_made, cores_of}
use Rattle.ec_check.specs.WellTyped.{Site, typed, goes_in, IsWellOperation}
use Rattle.ec_types.specs.Names.{Text}
use Rattle.ec_rules.specs.Captures.{Use, uses_outside}
use Rattle.ec_rules.specs.Lists.{each}
use Rattle.ec_rules.specs.Members.{constant_type}
use Rattle.ec_rules.specs.Operands.{must_conform, wrong_constant}
use Rattle.ec_rules.specs.Parts.{value_in, values_in, uses_in, faults_in}
use Rattle.ec_rules.specs.declared.StaticFault.{StaticFault}
use Rattle.ec_types.specs.Scopes.{written_in}

-- ---- one part behind another

pub first_reach : (names : List Text) (us vs : List Use) → Every (IsReached names) (uses_outside (us ++ vs)) →
    Every (IsReached names) (uses_outside us)
first_reach names us vs h =
    every_left (IsReached names) (uses_outside us) (uses_outside vs) (subst (Every (IsReached names)) (outside_joined us vs) h)

pub second_reach : (names : List Text) (us vs : List Use) → Every (IsReached names) (uses_outside (us ++ vs)) →
    Every (IsReached names) (uses_outside vs)
second_reach names us vs h =
    every_right (IsReached names) (uses_outside us) (uses_outside vs) (subst (Every (IsReached names)) (outside_joined us vs) h)

pub first_ready : {site : Site} {env : Env} (us vs : List Use) (fs gs : List StaticFault) (m n : Made) →
    Ready site env (us ++ vs) (fs ++ gs) (both_made m n) → Ready site env us fs m
first_ready {site} {env} us vs fs gs m n r = record {
  suits = r.suits;
  sound = r.sound;
  reach = first_reach env.captures us vs r.reach;
  faultless = none_left fs gs r.faultless;
  classes = every_left (Contains site.core.classes) m.classes n.classes r.classes;
  operations = every_left (Contains site.core.operations) m.operations n.operations r.operations;
}

pub second_ready : {site : Site} {env : Env} (us vs : List Use) (fs gs : List StaticFault) (m n : Made) →
    Ready site env (us ++ vs) (fs ++ gs) (both_made m n) → Ready site env vs gs n
second_ready {site} {env} us vs fs gs m n r = record {
  suits = r.suits;
  sound = r.sound;
  reach = second_reach env.captures us vs r.reach;
  faultless = none_right fs gs r.faultless;
  classes = every_right (Contains site.core.classes) m.classes n.classes r.classes;
  operations = every_right (Contains site.core.operations) m.operations n.operations r.operations;
}

-- without the faults of the whole itself
pub ready_within : {site : Site} {env : Env} {us : List Use} (fs gs : List StaticFault) {m : Made} →
    Ready site env us (fs ++ gs) m → Ready site env us fs m
ready_within fs gs r = record {
  suits = r.suits;
  sound = r.sound;
  reach = r.reach;
  faultless = none_left fs gs r.faultless;
  classes = r.classes;
  operations = r.operations;
}

-- of one part alone
pub ready_alone : {site : Site} {env : Env} (us : List Use) (fs : List StaticFault) {m : Made} →
    Ready site env (us ++ []) (fs ++ []) m → Ready site env us fs m
ready_alone {site} {env} us fs r = record {
  suits = r.suits;
  sound = r.sound;
  reach = first_reach env.captures us [] r.reach;
  faultless = none_left fs [] r.faultless;
  classes = r.classes;
  operations = r.operations;
}

pub same_ready : {site : Site} {env : Env} {us vs : List Use} {fs gs : List StaticFault} {m : Made} → us ≡ vs → gs ≡ [] →
    Ready site env us fs m → Ready site env vs gs m
same_ready {site} {env} e f r = record {
  suits = r.suits;
  sound = r.sound;
  reach = subst (λ us. Every (IsReached env.captures) (uses_outside us)) e r.reach;
  faultless = f;
  classes = r.classes;
  operations = r.operations;
}

-- ---- parts whose values are needed

abbrev pub Valued : Site → Env → Part → Type 0
Valued site env p = IsValue (typed site (p.core env)) (value_in env.scope p.part)

abbrev pub ReadyPart : Site → Env → Part → Type 0
ReadyPart site env p = Ready site env (uses_in env.scope p.part) (faults_in env.scope p.part) (p.made env.scope)

abbrev pub ReadyParts : Site → Env → List Part → Type 0
ReadyParts site env ps =
    Ready site env (each (uses_in env.scope) (map (λ p. p.part) ps)) (each (faults_in env.scope) (map (λ p. p.part) ps))
    (all_made env.scope ps)

pub part_well : (site : Site) (env : Env) (p : Part) → WellPart p → ReadyPart site env p →
    Well site (p.core env) (value_in env.scope p.part).of (p.made env.scope).operations
part_well site env p h r = h.well true site env r

pub part_valued : (site : Site) (env : Env) (p : Part) → WellPart p → ReadyPart site env p → Valued site env p
part_valued site env p h r = record {
  has_type = (part_well site env p h r).has_type;
  is_well = (part_well site env p h r).is_well;
  known = h.sound.value env.scope r.sound r.faultless;
  clean = h.clean env.scope r.faultless;
}

pub first_part : (site : Site) (env : Env) (p : Part) (ps : List Part) → ReadyParts site env (p ∷ ps) → ReadyPart site env p
first_part site env p ps r =
    first_ready (uses_in env.scope p.part) (each (uses_in env.scope) (map (λ p. p.part) ps)) (faults_in env.scope p.part)
    (each (faults_in env.scope) (map (λ p. p.part) ps)) (p.made env.scope) (all_made env.scope ps) r

other_parts : (site : Site) (env : Env) (p : Part) (ps : List Part) → ReadyParts site env (p ∷ ps) → ReadyParts site env ps
other_parts site env p ps r =
    second_ready (uses_in env.scope p.part) (each (uses_in env.scope) (map (λ p. p.part) ps)) (faults_in env.scope p.part)
    (each (faults_in env.scope) (map (λ p. p.part) ps)) (p.made env.scope) (all_made env.scope ps) r

pub parts_valued : (ps : List Part) (site : Site) (env : Env) → Every WellPart ps → ReadyParts site env ps →
    Every (Valued site env) ps
parts_valued [] site env h r = tt
parts_valued (p ∷ ps) site env h r = (
  part_valued site env p h.0 (first_part site env p ps r),
  parts_valued ps site env h.1 (other_parts site env p ps r),
)

pub parts_made : (ps : List Part) (site : Site) (env : Env) → Every WellPart ps → ReadyParts site env ps →
    AreWell site (all_made env.scope ps).operations
parts_made [] site env h r = tt
parts_made (p ∷ ps) site env h r =
    every_joined (IsWellOperation site.table site.core) (p.made env.scope).operations (all_made env.scope ps).operations
    (part_well site env p h.0 (first_part site env p ps r)).operations
    (parts_made ps site env h.1 (other_parts site env p ps r))

pub values_of : (ps : List Part) (site : Site) (env : Env) → Every (Valued site env) ps →
    Values (map (typed site) (cores_of env ps)) (values_in env.scope (map (λ p. p.part) ps))
values_of [] site env h = tt
values_of (p ∷ ps) site env h = (h.0, values_of ps site env h.1)

-- ---- values of variables and consts

-- a value that conforms to the type that is written
pub written_goes_in : (site : Site) (env : Env) (of : TypeName) (p : Part) → WellPart p → ReadyPart site env p →
    must_conform env.scope.table (written_in env.scope of) (value_in env.scope p.part) ≡ [] →
    goes_in site.table (written_in env.scope of) (typed site (p.core env)) ≡ true
written_goes_in site env of p h r e =
    value_goes_in site.table (written_in env.scope of) (typed site (p.core env)) (value_in env.scope p.part) (part_valued site env p h r)
    (subst (λ table. must_conform table (written_in env.scope of) (value_in env.scope p.part) ≡ []) r.suits.table e)

-- the value of a const, whether its type is written or not
pub constant_goes_in : (site : Site) (env : Env) (name : Name) (of : Option TypeName) (p : Part) → WellPart p → ReadyPart site env p →
    wrong_constant env.scope name of p.part ≡ [] →
    goes_in site.table (type_or (constant_type env.scope of p.part.form)) (typed site (p.core env)) ≡ true
constant_goes_in site env name None p h r e = h.formed site env r (test_holds _ _ _ e)
constant_goes_in site env name (Some of) p h r e = written_goes_in site env of p h r e
