-- The entry's listings stand where they run.
use Rattle.std.proofs.Common.{ℕ, List, [], ◌∷◌, ◌++◌, refl}
use Rattle.psx_base.specs.Memory.{Memory, word}
use Rattle.psx_ins.specs.declared.ins.Ins.TheVariants.{JR, RFE}
use Rattle.psx_flow.specs.declared.listings.TheConstants as tested
use Rattle.psx_flow.specs.Kernel.{kernel_words}
use Rattle.psx_flow.specs.Reaches.{IsPlaced, ArePlaced}
use Rattle.psx_flow.proofs.Step.{StandsAs, as_code}
use Rattle.kern_stay.specs.Shared.{tested_there}
use Rattle.kern_stay.proofs.Standing.{code_stands, placed_by, stand_first, stand_second}
use Rattle.kern_entry.specs.declared.places.TheConstants.{VECTOR, SAVE, CAUSES, INTERRUPTS, CALL_A, CALL_B, CALL_C, UNSERVED, EXCEPTION, LEAVE, BEHIND, RESUME, WORK, ELEMENTS, SCAN, EXIT, DONE, BACK, PUSH, TAKE_UP, COPY, COPY_HALF, SYSCALLS, DELIVER, BAD_POINTER, BAD_THREAD, DEEP, BAD_RETURN, READ_BYTE, WRITE_BYTE, READ_WORD, WRITE_WORD}
use Rattle.kern_entry.specs.declared.save.TheConstants.{VECTOR_NODES, SAVE_NODES, CAUSES_NODES}
use Rattle.kern_entry.specs.declared.interrupts.TheConstants.{INTERRUPTS_NODES}
use Rattle.kern_entry.specs.declared.calls.TheConstants.{CALL_A_NODES, CALL_B_NODES, CALL_C_NODES, EXIT_NODES}
use Rattle.kern_entry.specs.declared.stops.TheConstants.{UNSERVED_NODES, EXCEPTION_NODES, DONE_NODES, BAD_POINTER_NODES, BAD_THREAD_NODES, DEEP_NODES, BAD_RETURN_NODES}
use Rattle.kern_entry.specs.declared.back.TheConstants.{BACK_NODES}
use Rattle.kern_entry.specs.declared.push.TheConstants.{PUSH_NODES}
use Rattle.kern_entry.specs.declared.take_up.TheConstants.{TAKE_UP_NODES}
use Rattle.kern_entry.specs.declared.sys.TheConstants.{SYSCALLS_NODES}
use Rattle.kern_entry.specs.declared.leave.TheConstants.{LEAVE_NODES, BEHIND_NODES, RESUME_NODES, RETURN}
use Rattle.kern_entry.specs.declared.deliver.TheConstants.{DELIVER_NODES}
use Rattle.kern_entry.specs.declared.work.TheConstants.{WORK_NODES}
use Rattle.kern_entry.specs.declared.elements.TheConstants.{ELEMENTS_NODES}
use Rattle.kern_entry.specs.declared.scan.TheConstants.{SCAN_NODES}
use Rattle.kern_entry.specs.EntryWords.{tree, k0, return_words, vector_pieces, entry_pieces, leave_pieces, copy_pieces, routine_pieces, work_pieces, frame_pieces, tested_pieces, code_pieces}
use Rattle.kern_stay.specs.declared.copy.TheConstants.{COPY_NODES}
use Rattle.kern_stay.specs.declared.copy_half.TheConstants.{COPY_HALF_NODES}
use Rattle.kern_entry.specs.FramesOwn.{frames_own}
use Rattle.kern_entry.specs.WorkOwn.{work_own}
use Rattle.kern_entry.specs.Holding.{HoldsEntry}

-- ---- all of it

pub record AllPlaced (m : Memory) : Type 0 where
  pub vector : IsPlaced kernel_words m VECTOR (tree VECTOR_NODES)
  pub save : IsPlaced kernel_words m SAVE (tree SAVE_NODES)
  pub causes : IsPlaced kernel_words m CAUSES (tree CAUSES_NODES)
  pub interrupts : IsPlaced kernel_words m INTERRUPTS (tree INTERRUPTS_NODES)
  pub call_a : IsPlaced kernel_words m CALL_A (tree CALL_A_NODES)
  pub call_b : IsPlaced kernel_words m CALL_B (tree CALL_B_NODES)
  pub call_c : IsPlaced kernel_words m CALL_C (tree CALL_C_NODES)
  pub unserved : IsPlaced kernel_words m UNSERVED (tree UNSERVED_NODES)
  pub exception : IsPlaced kernel_words m EXCEPTION (tree EXCEPTION_NODES)
  pub leave : IsPlaced kernel_words m LEAVE (tree LEAVE_NODES)
  pub behind : IsPlaced kernel_words m BEHIND (tree BEHIND_NODES)
  pub work : IsPlaced kernel_words m WORK (tree WORK_NODES)
  pub work_calls : ArePlaced kernel_words m work_own
  pub resume : IsPlaced kernel_words m RESUME (tree RESUME_NODES)
  pub exit : IsPlaced kernel_words m EXIT (tree EXIT_NODES)
  pub done : IsPlaced kernel_words m DONE (tree DONE_NODES)
  pub back : IsPlaced kernel_words m BACK (tree BACK_NODES)
  pub syscalls : IsPlaced kernel_words m SYSCALLS (tree SYSCALLS_NODES)
  pub deliver : IsPlaced kernel_words m DELIVER (tree DELIVER_NODES)
  pub bad_pointer : IsPlaced kernel_words m BAD_POINTER (tree BAD_POINTER_NODES)
  pub bad_thread : IsPlaced kernel_words m BAD_THREAD (tree BAD_THREAD_NODES)
  pub deep : IsPlaced kernel_words m DEEP (tree DEEP_NODES)
  pub bad_return : IsPlaced kernel_words m BAD_RETURN (tree BAD_RETURN_NODES)
  pub push : IsPlaced kernel_words m PUSH (tree PUSH_NODES)
  pub take_up : IsPlaced kernel_words m TAKE_UP (tree TAKE_UP_NODES)
  pub copies : ArePlaced kernel_words m frames_own
  pub tested : ArePlaced kernel_words m tested_there
  pub return : StandsAs kernel_words m RETURN (JR k0 ∷ RFE ∷ [])

-- the pieces behind each group
abbrev behind_work : List (ℕ × List ℕ)
behind_work = frame_pieces ++ tested_pieces

abbrev behind_routines : List (ℕ × List ℕ)
behind_routines = work_pieces ++ behind_work

abbrev behind_copies : List (ℕ × List ℕ)
behind_copies = routine_pieces ++ behind_routines

abbrev behind_leave : List (ℕ × List ℕ)
behind_leave = copy_pieces ++ behind_copies

abbrev behind_entry : List (ℕ × List ℕ)
behind_entry = leave_pieces ++ behind_leave

pub all_placed : (m : Memory) → HoldsEntry m → AllPlaced m
all_placed m h =
    let all = word m in
    let v = stand_first all vector_pieces code_pieces h in
    let from_entry = stand_second all vector_pieces code_pieces h in
    let e = stand_first all entry_pieces behind_entry from_entry in
    let from_leave = stand_second all entry_pieces behind_entry from_entry in
    let l = stand_first all leave_pieces behind_leave from_leave in
    let from_copies = stand_second all leave_pieces behind_leave from_leave in
    let c = stand_first all copy_pieces behind_copies from_copies in
    let from_routines = stand_second all copy_pieces behind_copies from_copies in
    let r = stand_first all routine_pieces behind_routines from_routines in
    let from_work = stand_second all routine_pieces behind_routines from_routines in
    let w = stand_first all work_pieces behind_work from_work in
    let from_frames = stand_second all work_pieces behind_work from_work in
    let f = stand_first all frame_pieces tested_pieces from_frames in
    let t = stand_second all frame_pieces tested_pieces from_frames in
    record {
      vector = placed_by m VECTOR (tree VECTOR_NODES) refl refl refl refl v.0;
      save = placed_by m SAVE (tree SAVE_NODES) refl refl refl refl e.0;
      causes = placed_by m CAUSES (tree CAUSES_NODES) refl refl refl refl e.1.0;
      interrupts = placed_by m INTERRUPTS (tree INTERRUPTS_NODES) refl refl refl refl e.1.1.0;
      call_a = placed_by m CALL_A (tree CALL_A_NODES) refl refl refl refl e.1.1.1.0;
      call_b = placed_by m CALL_B (tree CALL_B_NODES) refl refl refl refl e.1.1.1.1.0;
      call_c = placed_by m CALL_C (tree CALL_C_NODES) refl refl refl refl e.1.1.1.1.1.0;
      unserved = placed_by m UNSERVED (tree UNSERVED_NODES) refl refl refl refl e.1.1.1.1.1.1.0;
      exception = placed_by m EXCEPTION (tree EXCEPTION_NODES) refl refl refl refl e.1.1.1.1.1.1.1.0;
      leave = placed_by m LEAVE (tree LEAVE_NODES) refl refl refl refl l.0;
      behind = placed_by m BEHIND (tree BEHIND_NODES) refl refl refl refl l.1.0;
      resume = placed_by m RESUME (tree RESUME_NODES) refl refl refl refl l.1.1.0;
      return = as_code kernel_words m RETURN (JR k0 ∷ RFE ∷ []) (code_stands m RETURN return_words refl l.1.1.1.0);
      copies = (placed_by m COPY_HALF (tree COPY_HALF_NODES) refl refl refl refl c.0, (placed_by m COPY (tree COPY_NODES) refl refl refl refl c.1.0, tt));
      exit = placed_by m EXIT (tree EXIT_NODES) refl refl refl refl r.0;
      done = placed_by m DONE (tree DONE_NODES) refl refl refl refl r.1.0;
      back = placed_by m BACK (tree BACK_NODES) refl refl refl refl r.1.1.0;
      syscalls = placed_by m SYSCALLS (tree SYSCALLS_NODES) refl refl refl refl r.1.1.1.0;
      deliver = placed_by m DELIVER (tree DELIVER_NODES) refl refl refl refl r.1.1.1.1.0;
      bad_pointer = placed_by m BAD_POINTER (tree BAD_POINTER_NODES) refl refl refl refl r.1.1.1.1.1.0;
      bad_thread = placed_by m BAD_THREAD (tree BAD_THREAD_NODES) refl refl refl refl r.1.1.1.1.1.1.0;
      deep = placed_by m DEEP (tree DEEP_NODES) refl refl refl refl r.1.1.1.1.1.1.1.0;
      bad_return = placed_by m BAD_RETURN (tree BAD_RETURN_NODES) refl refl refl refl r.1.1.1.1.1.1.1.1.0;
      work = placed_by m WORK (tree WORK_NODES) refl refl refl refl w.0;
      work_calls = (placed_by m ELEMENTS (tree ELEMENTS_NODES) refl refl refl refl w.1.0, (placed_by m SCAN (tree SCAN_NODES) refl refl refl refl w.1.1.0, tt));
      push = placed_by m PUSH (tree PUSH_NODES) refl refl refl refl f.0;
      take_up = placed_by m TAKE_UP (tree TAKE_UP_NODES) refl refl refl refl f.1.0;
      tested = (placed_by m READ_BYTE (tree tested.READ_BYTE) refl refl refl refl t.0, (placed_by m WRITE_BYTE (tree tested.WRITE_BYTE) refl refl refl refl t.1.0, (placed_by m READ_WORD (tree tested.READ_WORD) refl refl refl refl t.1.1.0, (placed_by m WRITE_WORD (tree tested.WRITE_WORD) refl refl refl refl t.1.1.1.0, tt))));
    }
