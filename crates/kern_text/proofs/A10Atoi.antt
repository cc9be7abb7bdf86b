-- atoi meets its stay.
use Rattle.psx_flow.proofs.Kit.{ℕ, ◌^◌, ◌<◌, ◌++◌, refl, arith, Calls, calls, kernel_words, start}
use Rattle.std.proofs.Common.{Bool}
use Rattle.abs_kernel.specs.Stay.{Stay}
use Rattle.abs_kernel.specs.Answered.{registers_of, answered}
use Rattle.abs_kernel.specs.UserBytes.{bad_pointer}
use Rattle.abs_kernel.specs.Strtol.{takes_prefix, reads_number, atoi}
use Rattle.abs_kernel.specs.declared.calls.CallId.TheVariants.{A10}
use Rattle.abs_kernel.specs.Calls.{call}
use Rattle.kern_stay.specs.Shared.{tree, tested_there}
use Rattle.kern_stay.specs.Doors.{Through, Serves, called_with, begun, most_steps}
use Rattle.kern_stay.proofs.RoomGiven.{KnowsRoom, knows_room}
use Rattle.kern_stay.proofs.Ending.{through, answers, left_all, left_is}
use Rattle.kern_stay.proofs.Looping.{leaves, stops}
use Rattle.kern_stay.proofs.Cursor.{null, not_null}
use Rattle.kern_text.specs.NumberOwn.{number_own}
use Rattle.kern_text.specs.declared.places.TheConstants.{ATOI, ROOM}
use Rattle.kern_text.specs.declared.a10_atoi.TheConstants.{NODES}
use Rattle.kern_text.proofs.TextSpan.{bytes_from, end_from, text_span, text_short}
use Rattle.kern_text.proofs.NumberRead.{digits, ready_at, begins, no_prefix}
use Rattle.kern_text.proofs.NumberCalls.{from_blanks, passing, taking}

pub serves : Serves number_own most_steps (call A10) ATOI (tree NODES)
serves s d z m h =
    let C : Calls = calls kernel_words (number_own ++ tested_there) in
    let know : KnowsRoom ROOM C = knows_room ROOM from_blanks in
    let a : ℕ = (registers_of s).r4 in
    let small : a < 2 ^ 32 = h.words 4 in
    let n : ℕ = bytes_from a in
    let stop : ℕ = end_from a in
    let text = text_span a small in
    let short = text_short a in
    let stay : Stay = atoi s in
    let next : Bool → ℕ → ℕ → Stay = λ minus. takes_prefix s 10 (digits s a 0 minus) in
    start C know.fair (tree NODES) ATOI (λ _. ⊥) (λ to e. Through stay most_steps to e) (begun (called_with (registers_of s) d) z m) (
      λ none. through stay most_steps _ _ refl (answers most_steps s _ stay (null a (answered s 0) (reads_number s a 0 10) none) h.holds (omega arith)),
      λ some.
          let l = left_is stay _ _ most_steps (not_null a (answered s 0) (reads_number s a 0 10) some) (left_all stay) in
          know.room _ _ _ _ _ _ _ small (λ x y p up. passing stay s m h.holds a n stop text short next _ _ _ _ _ most_steps refl refl l (omega arith) refl
          (λ d z q p quiet g.
          let few = g.within in
          let seen = g.peeks in
          let ready = begins stay s 10 0 g.minus a n stop d.r8 g.most text short record {
            to_come = seen.to_come;
            cursor = seen.cursor;
            bad = seen.bad;
            good = λ ne. left_is stay _ _ g.most (no_prefix s 10 (digits s a 0 g.minus) d.r8 _ (λ e. omega (arith, e)) (λ e. omega (arith, e))) (seen.good ne);
          } in
          taking stay s m h.holds a n stop text short g.minus 0 _ _ _ _ _ seen.to_come g.most g.kept.r14 g.sign (omega (arith, g.kept.r6))
          (ready_at stay s 0 g.minus a n stop seen.to_come 10 d.r8 0 a g.most d.r6 d.r8 d.r2 d.r13 g.kept.r6 refl g.kept.r2 g.kept.r13 ready) (omega arith) quiet
          (λ e z q p quiet t. let few = t.within in (
            λ bad. stops stay (bad_pointer s e.r8) t.most s _ (t.bad bad) quiet refl h.holds (omega arith),
            λ fine. leaves stay (answered s e.r2) t.most s _ (t.good fine) quiet refl h.holds (omega arith),
          )))),
    )
