-- The words of the crate's listings.
use Rattle.std.specs.Prelude.{ℕ, List, [], ◌∷◌}
use Rattle.kern_stay.specs.Words.{listing}
use Rattle.kern_timer.specs.declared.places.TheConstants.{INIT_TIMER, GET_TIMER, ENABLE_TIMER_IRQ, DISABLE_TIMER_IRQ, RESTART_TIMER}
use Rattle.kern_timer.specs.declared.b02_init_timer.TheConstants as init_timer
use Rattle.kern_timer.specs.declared.b03_get_timer.TheConstants as get_timer
use Rattle.kern_timer.specs.declared.b04_enable_timer_irq.TheConstants as enable_timer_irq
use Rattle.kern_timer.specs.declared.b06_restart_timer.TheConstants as restart_timer

-- in the order of their addresses
abbrev pub timer_pieces : List (ℕ × List ℕ)
timer_pieces =
    listing INIT_TIMER init_timer.NODES
    ∷ listing GET_TIMER get_timer.NODES
    ∷ listing ENABLE_TIMER_IRQ enable_timer_irq.NODES
    ∷ listing DISABLE_TIMER_IRQ enable_timer_irq.DISABLE_NODES
    ∷ listing RESTART_TIMER restart_timer.NODES
    ∷ []
