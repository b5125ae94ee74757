-- A machine that fits behind a stop fits there too, where the stop has another address: its registers hold the same.
use Rattle.std.proofs.Common.{◌∙◌, ℕ, ◌+◌, Bool, List, refl, ap}
use Rattle.std.specs.Option.{option_map}
use Rattle.ec_code.specs.Activations.{machine_behind}
use Rattle.ec_code.specs.Fine.{live_at}
use Rattle.ec_code.specs.declared.code.Operation.{Operation}
use Rattle.ec_code.specs.declared.code.Parts.{Parts}
use Rattle.ec_machine_code.specs.Faithful.{homes_of}
use Rattle.ec_machine_code.specs.Fitted.{FitAt}
use Rattle.ec_machine_code.specs.declared.code.Code.{Code}
use Rattle.ec_machine_code.specs.declared.homes.Home.{Home}
use Rattle.ec_passes.proofs.Following.{fits_so}
use Rattle.mips_code.specs.Meaning.{mips_meaning}
use Rattle.mips_delay.specs.Fill.{Moved}
use Rattle.mips_delay.specs.Fitting.{FilledFits, KeepsFits}
use Rattle.mips_delay.specs.Places.{moved_to}
use Rattle.mips_machine.specs.Step.{resting}
use Rattle.mips_machine.specs.declared.machine.MipsMachine.{MipsMachine}
use Rattle.std.specs.Prelude.{suc}

-- the machine, at rest at another place
abbrev at_rest : MipsMachine → ℕ → MipsMachine
at_rest m place = record { registers = m.registers; hi = m.hi; lo = m.lo; flow = resting place; many = m.many }

module _ (old new : Code) (fills : ℕ → Bool) (moved : Moved old new fills) (p : Parts) (homes : List (List Home)) (n q : ℕ)
    (o : Operation) (fit : FitAt mips_meaning p old homes n q o) where
  abbrev to : ℕ
  to = moved_to fills fit.address

  fits_there : FitAt mips_meaning p new homes n q o
  fits_there = record {
    local = fit.local;
    text = fit.text;
    tables = fit.tables;
    activation = fit.activation;
    is_operation = fit.is_operation;
    is_at = fit.is_at;
    common = fit.common;
    address = to;
    frame = fit.frame;
    own = fit.own;
    state = at_rest fit.state (to + 4);
    bytes = fit.bytes;
    stop = record {
      operation = fit.stop.operation;
      is_operation = fit.stop.is_operation;
      number = fit.stop.number;
      is_number = fit.stop.is_number;
      is_address = moved.stops n fit.stop.number ∙ ap (option_map (moved_to fills)) fit.stop.is_address;
    };
    behind = refl;
    has = fit.has;
    fits =
        fits_so mips_meaning fit.local fit.text fit.state (at_rest fit.state (to + 4))
        (record { frame = refl; owns = refl; home = λ k small. refl }) refl (homes_of homes n o) (live_at o.code (suc q)) fit.frame fit.own
        fit.activation.own (machine_behind p fit.common fit.activation) fit.bytes fit.fits;
    typed = fit.typed;
  }

-- so it is wherever words have moved with their stops
pub moved_fits : (old new : Code) (fills : ℕ → Bool) → Moved old new fills → KeepsFits old new
moved_fits old new fills moved p homes n place o fit = fits_there old new fills moved p homes n place o fit

pub filled_fits : FilledFits
filled_fits old new fills filled = moved_fits old new fills filled.moved
