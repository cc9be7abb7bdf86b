-- Each listing stands at its address, and serves its call.
use Rattle.std.proofs.Common.{[], refl, inl}
use Rattle.psx_base.specs.Memory.{Memory, word}
use Rattle.abs_kernel.specs.InitTimer.{init_timer}
use Rattle.abs_kernel.specs.GetTimer.{get_timer}
use Rattle.abs_kernel.specs.EnableTimerIrq.{enable_timer_irq}
use Rattle.abs_kernel.specs.DisableTimerIrq.{disable_timer_irq}
use Rattle.abs_kernel.specs.RestartTimer.{restart_timer}
use Rattle.kern_stay.specs.Words.{Stand}
use Rattle.kern_stay.specs.Doors.{IsServed, most_steps}
use Rattle.kern_stay.specs.Shared.{tree}
use Rattle.kern_stay.proofs.Serving.{served_by}
use Rattle.kern_timer.specs.declared.places.TheConstants.{INIT_TIMER, GET_TIMER, ENABLE_TIMER_IRQ, DISABLE_TIMER_IRQ, RESTART_TIMER}
use Rattle.kern_timer.specs.declared.b02_init_timer.TheConstants as init_is
use Rattle.kern_timer.specs.declared.b03_get_timer.TheConstants as get_is
use Rattle.kern_timer.specs.declared.b04_enable_timer_irq.TheConstants as enable_is
use Rattle.kern_timer.specs.declared.b06_restart_timer.TheConstants as restart_is
use Rattle.kern_timer.specs.TimerWords.{timer_pieces}
use Rattle.kern_timer.specs.TimerLaws.{TimerServes}
use Rattle.kern_timer.proofs.B02InitTimer as of_init
use Rattle.kern_timer.proofs.B03GetTimer as of_get
use Rattle.kern_timer.proofs.B04EnableTimerIrq as of_enable
use Rattle.kern_timer.proofs.B06RestartTimer as of_restart

init_served : (m : Memory) → Stand (word m) timer_pieces → IsServed m most_steps init_timer INIT_TIMER
init_served m r = served_by m most_steps init_timer INIT_TIMER [] (tree init_is.NODES) refl refl refl refl refl tt (r.0) of_init.serves

get_served : (m : Memory) → Stand (word m) timer_pieces → IsServed m most_steps get_timer GET_TIMER
get_served m r = served_by m most_steps get_timer GET_TIMER [] (tree get_is.NODES) refl refl refl refl refl tt (r.1.0) of_get.serves

enable_served : (m : Memory) → Stand (word m) timer_pieces → IsServed m most_steps enable_timer_irq ENABLE_TIMER_IRQ
enable_served m r = served_by m most_steps enable_timer_irq ENABLE_TIMER_IRQ [] (tree enable_is.NODES) refl refl refl refl refl tt (r.1.1.0) of_enable.serves

disable_served : (m : Memory) → Stand (word m) timer_pieces → IsServed m most_steps disable_timer_irq DISABLE_TIMER_IRQ
disable_served m r = served_by m most_steps disable_timer_irq DISABLE_TIMER_IRQ [] (tree enable_is.DISABLE_NODES) refl refl refl refl refl tt (r.1.1.1.0) of_enable.disable_serves

restart_served : (m : Memory) → Stand (word m) timer_pieces → IsServed m most_steps restart_timer RESTART_TIMER
restart_served m r = served_by m most_steps restart_timer RESTART_TIMER [] (tree restart_is.NODES) refl refl refl refl refl tt (r.1.1.1.1.0) of_restart.serves

pub timer_serves : TimerServes
timer_serves m r = (inl (init_served m r), (inl (get_served m r), (inl (enable_served m r), (inl (disable_served m r), (inl (restart_served m r), tt)))))
