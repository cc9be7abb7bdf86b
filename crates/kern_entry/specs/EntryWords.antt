-- The words of the entry: its listings, lowered, the vector, the gates, and the two words that leave the kernel.
use Rattle.std.specs.Prelude.{ℕ, ◌%◌, ◌^◌, List, [], ◌∷◌, ◌++◌}
use Rattle.psx_ins.specs.declared.reg.Reg.{Reg}
use Rattle.psx_ins.specs.declared.ins.Ins.TheVariants.{SYSCALL, JR, RFE}
use Rattle.psx_ins.specs.Words.{word}
use Rattle.psx_flow.specs.declared.listings.TheConstants.{READ_BYTE, WRITE_BYTE, READ_WORD, WRITE_WORD}
use Rattle.kern_layout.specs.declared.ranges.TheConstants.{GATE_A, GATE_B, GATE_C, GATE_DONE, GATE_BACK}
use Rattle.kern_entry.specs.declared.places.TheConstants as place
use Rattle.kern_entry.specs.declared.save.TheConstants.{VECTOR_NODES, SAVE_NODES, CAUSES_NODES}
use Rattle.kern_entry.specs.declared.interrupts.TheConstants.{INTERRUPTS_NODES}
use Rattle.kern_entry.specs.declared.calls.TheConstants.{CALL_A_NODES, CALL_B_NODES, CALL_C_NODES, EXIT_NODES}
use Rattle.kern_entry.specs.declared.stops.TheConstants.{UNSERVED_NODES, EXCEPTION_NODES, DONE_NODES, BAD_POINTER_NODES, BAD_THREAD_NODES, DEEP_NODES, BAD_RETURN_NODES}
use Rattle.kern_entry.specs.declared.back.TheConstants.{BACK_NODES}
use Rattle.kern_entry.specs.declared.push.TheConstants.{PUSH_NODES}
use Rattle.kern_entry.specs.declared.take_up.TheConstants.{TAKE_UP_NODES}
use Rattle.kern_stay.specs.declared.copy.TheConstants.{COPY_NODES}
use Rattle.kern_stay.specs.declared.copy_half.TheConstants.{COPY_HALF_NODES}
use Rattle.kern_entry.specs.declared.sys.TheConstants.{SYSCALLS_NODES}
use Rattle.kern_entry.specs.declared.leave.TheConstants.{LEAVE_NODES, BEHIND_NODES, RESUME_NODES, RETURN}
use Rattle.kern_entry.specs.declared.deliver.TheConstants.{DELIVER_NODES}
use Rattle.kern_entry.specs.declared.work.TheConstants.{WORK_NODES}
use Rattle.kern_entry.specs.declared.elements.TheConstants.{ELEMENTS_NODES}
use Rattle.kern_entry.specs.declared.scan.TheConstants.{SCAN_NODES}
pub use Rattle.kern_stay.specs.Shared.{tree}
pub use Rattle.kern_stay.specs.Words.{listing}

-- from the vector to the routine
abbrev pub entry_pieces : List (ℕ × List ℕ)
entry_pieces =
    listing place.SAVE SAVE_NODES ∷ listing place.CAUSES CAUSES_NODES ∷ listing place.INTERRUPTS INTERRUPTS_NODES ∷ listing place.CALL_A CALL_A_NODES ∷ listing place.CALL_B CALL_B_NODES
    ∷ listing place.CALL_C CALL_C_NODES ∷ listing place.UNSERVED UNSERVED_NODES ∷ listing place.EXCEPTION EXCEPTION_NODES ∷ []

-- jr k0, with rfe in its slot
abbrev pub k0 : Reg
k0 = record { 0 = 26 }

abbrev pub return_words : List ℕ
return_words = word (JR k0) ∷ word RFE ∷ []

-- back to the program
abbrev pub leave_pieces : List (ℕ × List ℕ)
leave_pieces =
    listing place.LEAVE LEAVE_NODES ∷ listing place.BEHIND BEHIND_NODES ∷ listing place.RESUME RESUME_NODES ∷ (RETURN % 2 ^ 29, return_words) ∷ []

-- the copies of contexts and of other words
abbrev pub copy_pieces : List (ℕ × List ℕ)
copy_pieces = listing place.COPY_HALF COPY_HALF_NODES ∷ listing place.COPY COPY_NODES ∷ []

-- the routines
abbrev pub routine_pieces : List (ℕ × List ℕ)
routine_pieces =
    listing place.EXIT EXIT_NODES ∷ listing place.DONE DONE_NODES ∷ listing place.BACK BACK_NODES ∷ listing place.SYSCALLS SYSCALLS_NODES ∷ listing place.DELIVER DELIVER_NODES ∷ listing place.BAD_POINTER BAD_POINTER_NODES
    ∷ listing place.BAD_THREAD BAD_THREAD_NODES ∷ listing place.DEEP DEEP_NODES ∷ listing place.BAD_RETURN BAD_RETURN_NODES ∷ []

-- the tasks before a context is taken up
abbrev pub work_pieces : List (ℕ × List ℕ)
work_pieces = listing place.WORK WORK_NODES ∷ listing place.ELEMENTS ELEMENTS_NODES ∷ listing place.SCAN SCAN_NODES ∷ []

-- the calls of functions and their returns
abbrev pub frame_pieces : List (ℕ × List ℕ)
frame_pieces = listing place.PUSH PUSH_NODES ∷ listing place.TAKE_UP TAKE_UP_NODES ∷ []

-- the four accesses to user memory
abbrev pub tested_pieces : List (ℕ × List ℕ)
tested_pieces =
    listing place.READ_BYTE READ_BYTE ∷ listing place.WRITE_BYTE WRITE_BYTE ∷ listing place.READ_WORD READ_WORD ∷ listing place.WRITE_WORD WRITE_WORD ∷ []

-- the vector, and a SYSCALL at each gate
abbrev pub gate : List ℕ
gate = word (SYSCALL 0) ∷ []

abbrev pub vector_pieces : List (ℕ × List ℕ)
vector_pieces = listing place.VECTOR VECTOR_NODES ∷ (GATE_A.from, gate) ∷ (GATE_B.from, gate) ∷ (GATE_C.from, gate) ∷ (GATE_DONE.from, gate) ∷ (GATE_BACK.from, gate) ∷ []

-- the code, and all of them, in the order of their addresses
abbrev pub code_pieces : List (ℕ × List ℕ)
code_pieces = entry_pieces ++ (leave_pieces ++ (copy_pieces ++ (routine_pieces ++ (work_pieces ++ (frame_pieces ++ tested_pieces)))))

abbrev pub pieces : List (ℕ × List ℕ)
pieces = vector_pieces ++ code_pieces
