use Rattle.std.proofs.Common.{ℕ, [], refl, ap, subst, ◌∙◌}
use Rattle.psx_board.specs.SoFar.{so_far}
use Rattle.psx_base.specs.Memory.{Memory}
use Rattle.psx_exe.specs.Placed.{placed}
use Rattle.psx_ports.specs.Stands.{StandsFor}
use Rattle.psx_board.proofs.board.Board.new.Goals as goal

pub returns-clause-stands : goal.returns-clause-stands
returns-clause-stands c =
    let given = λ (sp : ℕ). StandsFor c.in_ok-ports.ports (record { given = record { pc = c.args.exe.now.pc; gp = c.args.exe.now.gp; sp = sp; threads = c.args.sizes.threads; events = c.args.sizes.events }; events = []; now = 0 }) in
    record {
      core = (λ i. record { processor = c.reset.ensures i; bytes = (c.place_program.ensures ∙ ap (λ (m : Memory). placed m c.args.exe.now) c.in_ok-ram.ensures) i });
      devices = c.new-3.ensures.carries _ (subst given c.stack_top.ensures c.in_ok-ports.ensures);
      taken = c.new-3.ensures.counted;
    }

pub returns-clause-after : goal.returns-clause-after
unfolding so_far
returns-clause-after c = record { stands = returns-clause-stands c; stopped = refl }
