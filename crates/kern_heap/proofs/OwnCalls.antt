-- What the routines take of the listings of the crate that they call.
use Rattle.psx_flow.proofs.Kit.{◌≡◌, ℕ, ◌^◌, ◌<◌, ◌≤◌, ◌++◌, List, [], ◌∷◌, refl, sym, ap, subst, Memory, Registers, Cop0, Run, Access, Calls, calls, Tree, Fair, fair, kernel_words, Part, Anew, Calling, Count, run}
use Rattle.std.specs.Prelude.{Option, Some, None}
use Rattle.psx_base.specs.KernelState.{KernelState}
use Rattle.psx_flow.proofs.Knows.{first_call, later_call}
use Rattle.kern_layout.specs.Valid.{Valid}
use Rattle.psx_flow.specs.Told.{ports}
use Rattle.abs_kernel.specs.Stay.{Stay}
use Rattle.abs_kernel.specs.Answered.{answered}
use Rattle.abs_kernel.specs.Heap.{Given, with_blocks}
use Rattle.abs_kernel.specs.Malloc.{gives}
use Rattle.kern_stay.specs.declared.room.TheConstants.{ROOM_NODES}
use Rattle.kern_stay.specs.declared.places.TheConstants.{LEAVE}
use Rattle.kern_stay.specs.Shared.{tree, tested_there}
use Rattle.kern_stay.specs.Doors.{Holds, Ends, Through, most_heap_steps}
use Rattle.kern_stay.proofs.Ending.{through, answers}
use Rattle.kern_heap.specs.Own.{own}
use Rattle.kern_heap.specs.declared.places.TheConstants.{ROOM, ALLOT, RELEASE, FIND, JOIN}
use Rattle.kern_heap.specs.declared.allot.TheConstants.{ALLOT_NODES}
use Rattle.kern_heap.specs.declared.release.TheConstants.{RELEASE_NODES}
use Rattle.kern_heap.specs.declared.find.TheConstants.{FIND_NODES}
use Rattle.kern_heap.specs.declared.join.TheConstants.{JOIN_NODES}
use Rattle.kern_heap.proofs.HeapHeld.{heap_fit, heap_ends}
use Rattle.kern_heap.proofs.Finding.{FindKnown, finds}
use Rattle.kern_heap.proofs.Allotting.{Came, AllotKnown, allots_there}
use Rattle.kern_heap.proofs.Releasing.{ReleaseKnown, releases_there}

abbrev pub C : Calls
C = calls kernel_words (own ++ tested_there)

pub fair_own : Fair C
fair_own = fair kernel_words (own ++ tested_there)

abbrev behind_find : List (ℕ × Tree)
behind_find = (JOIN, tree JOIN_NODES) ∷ tested_there

abbrev behind_release : List (ℕ × Tree)
behind_release = (FIND, tree FIND_NODES) ∷ behind_find

abbrev behind_allot : List (ℕ × Tree)
behind_allot = (RELEASE, tree RELEASE_NODES) ∷ behind_release

abbrev behind_room : List (ℕ × Tree)
behind_room = (ALLOT, tree ALLOT_NODES) ∷ behind_allot

module _ (s : KernelState) (valid : Valid s) (m : Memory) (holds : Holds s m) (k : Part) (c : Registers) (z : Cop0) (q : List Access) (p : Count) where
  pub allotting : c.r5 < 2 ^ 32 → AllotKnown k s c q p → Calling C ALLOT c.r31 k c z m [] q p
  allotting small known = record {
    called = λ ok. later_call ALLOT (ROOM, tree ROOM_NODES) behind_room c.r31 (Anew k) (run c z m [] q p) refl
        (first_call ALLOT (tree ALLOT_NODES) behind_allot c.r31 (Anew k) (run c z m [] q p) refl
        (allots_there (calls kernel_words behind_allot) (fair kernel_words behind_allot) s valid m holds (heap_fit s.heap valid.heap) (heap_ends s.heap valid.heap) c small q p k known z));
  }

  pub releasing : ReleaseKnown k s c q p → Calling C RELEASE c.r31 k c z m [] q p
  releasing known = record {
    called = λ ok. later_call RELEASE (ROOM, tree ROOM_NODES) behind_room c.r31 (Anew k) (run c z m [] q p) refl
        (later_call RELEASE (ALLOT, tree ALLOT_NODES) behind_allot c.r31 (Anew k) (run c z m [] q p) refl
        (first_call RELEASE (tree RELEASE_NODES) behind_release c.r31 (Anew k) (run c z m [] q p) refl
        (releases_there s valid m holds c q p k known z)));
  }

  pub finding : FindKnown k s m c q p → Calling C FIND c.r31 k c z m [] q p
  finding known = record {
    called = λ ok. later_call FIND (ROOM, tree ROOM_NODES) behind_room c.r31 (Anew k) (run c z m [] q p) refl
        (later_call FIND (ALLOT, tree ALLOT_NODES) behind_allot c.r31 (Anew k) (run c z m [] q p) refl
        (later_call FIND (RELEASE, tree RELEASE_NODES) behind_release c.r31 (Anew k) (run c z m [] q p) refl
        (first_call FIND (tree FIND_NODES) behind_find c.r31 (Anew k) (run c z m [] q p) refl
        (finds (calls kernel_words behind_find) (fair kernel_words behind_find) s m holds (heap_fit s.heap valid.heap) (heap_ends s.heap valid.heap) c q p k known z))));
  }

-- what ALLOT comes back with is what malloc answers
gives_ends : (s : KernelState) (o : Option Given) (e : Run) → Came s o e.regs.r2 e.bytes → e.steps ≤ most_heap_steps → Ends 128 (gives s o) most_heap_steps LEAVE e
gives_ends s None e h few = answers most_heap_steps s e (gives s None) (ap (answered s) (sym h.0)) h.1 few
gives_ends s (Some g) e h few = answers most_heap_steps (with_blocks s g.blocks) e (gives s (Some g)) (ap (answered (with_blocks s g.blocks)) (sym h.0)) h.1 few

pub gives_through : (s : KernelState) (o : Option Given) (stay : Stay) (e : Run) → stay ≡ gives s o → ports e.seen ≡ [] → Came s o e.regs.r2 e.bytes → e.steps ≤ most_heap_steps → Through stay most_heap_steps LEAVE e
gives_through s o stay e is quiet h few = through stay most_heap_steps LEAVE e quiet (subst (λ r. Ends 128 r most_heap_steps LEAVE e) (sym is) (gives_ends s o e h few))
