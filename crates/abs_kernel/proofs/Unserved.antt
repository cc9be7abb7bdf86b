-- A number that isn't served stops with itself.
use Rattle.std.proofs.Common.{◌≡◌, ℕ, refl, sym, ap, ◌∙◌, subst}
use Rattle.psx_base.specs.declared.stop.Table.{Table}
use Rattle.psx_base.specs.declared.stop.Table.TheVariants.{A, B, C, Sys}
use Rattle.psx_base.specs.declared.stop.Stop.TheVariants.{Unserved}
use Rattle.psx_base.specs.Context.{epc_of}
use Rattle.psx_base.specs.Items.{Entrance}
use Rattle.psx_base.specs.KernelState.{KernelState}
use Rattle.abs_kernel.specs.Stay.{Halt}
use Rattle.abs_kernel.specs.Calls.{by_row}
use Rattle.abs_kernel.specs.Sys.{syscall}
use Rattle.abs_kernel.specs.KernelStep.{settled_state, by_entrance, stay_of}
use Rattle.abs_kernel.specs.StayLaws.{to_table, unserved, IsUnserved, UnservedStops}

syscall_stops : (s : KernelState) (n : ℕ) → n ≡ 3 → syscall n s ≡ Halt (Unserved Sys n (epc_of s.running.context)) s.memory
syscall_stops s n h = subst (λ k. syscall k s ≡ Halt (Unserved Sys k (epc_of s.running.context)) s.memory) (sym h) refl

table_stops : (s : KernelState) (code : ℕ) (table : Table) → IsUnserved table s → by_entrance (to_table table) code (settled_state s) ≡ Halt (unserved table s) s.memory
table_stops s code A h = ap (λ row. by_row A row (settled_state s)) h
table_stops s code B h = ap (λ row. by_row B row (settled_state s)) h
table_stops s code C h = ap (λ row. by_row C row (settled_state s)) h
table_stops s code Sys h = syscall_stops (settled_state s) _ h

pub unserved_stops : UnservedStops
unfolding stay_of
unserved_stops s code table e h = ap (λ (by : Entrance). by_entrance by code (settled_state s)) e ∙ table_stops s code table h
