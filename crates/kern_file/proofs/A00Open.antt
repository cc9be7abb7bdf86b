-- open meets its stay.
use Rattle.psx_flow.proofs.Kit.{◌≡◌, ℕ, suc, ◌+◌, ◌-◌, ◌*◌, ◌%◌, ◌^◌, ◌<◌, ◌≤◌, ◌++◌, refl, sym, ap, ◌∙◌, subst, arith, ⊎_elim, put_word, byte, Run, Goal, Calls, calls, Tree, place, kernel_words, start, true, false}
use Rattle.std.proofs.Common.{zero, List, [], ◌∷◌, ◌/◌, eq-eqb, ne_eqb}
use Rattle.std.specs.Prelude.{Bool, not, ◌||◌, nat_eq, nat_lt, bit_and, is_none, Some, if◌then◌else◌}
use Rattle.std.proofs.lemmas.Nat.{and_mask}
use Rattle.std.proofs.lemmas.Bool.{cases_lt}
use Rattle.psx_base.specs.KernelState.{KernelState}
use Rattle.psx_flow.specs.Told.{ports}
use Rattle.kern_layout.specs.Reads.{file_at}
use Rattle.kern_layout.specs.Valid.{Valid}
use Rattle.abs_kernel.specs.Stay.{Stay}
use Rattle.abs_kernel.specs.Answered.{registers_of, answered}
use Rattle.abs_kernel.specs.UserBytes.{reads_byte, bad_pointer, following}
use Rattle.abs_kernel.specs.Files.{file, with_file, with_errno, refuses, no_device, bad_mode, no_file_left}
use Rattle.abs_kernel.specs.Open.{console_name, free_file, opens, opens_named, open_file}
use Rattle.abs_kernel.specs.declared.calls.CallId.TheVariants.{A00}
use Rattle.abs_kernel.specs.Calls.{call}
use Rattle.kern_stay.specs.Room.{room}
use Rattle.kern_stay.specs.Shared.{tree, tested_there}
use Rattle.kern_stay.specs.Doors.{Holds, Through, Serves, called_with, begun, most_steps}
use Rattle.kern_stay.proofs.RoomGiven.{KnowsRoom, knows_room, true_then, false_then}
use Rattle.kern_stay.proofs.RoomLeft.{Span, span_some}
use Rattle.kern_stay.proofs.Ending.{user_byte, through, answers, Left, left_all, left_is, left_read, left_unread}
use Rattle.kern_stay.proofs.Looping.{starting, Turning, FromLoop, looped, behind_loop, leaves, stops}
use Rattle.kern_stay.proofs.Cursor.{Cursor, coming, done_bad}
use Rattle.kern_stay.proofs.Copying.{data_place, data_sort}
use Rattle.kern_file.specs.Own.{own}
use Rattle.kern_file.specs.declared.places.TheConstants.{OPEN, ROOM}
use Rattle.kern_file.specs.declared.a00_open.TheConstants.{NODES}
use Rattle.kern_file.proofs.FilesHeld.{mode_is, mode_fits, is_closed, is_open, holds_errno, holds_file}
use Rattle.kern_file.proofs.FreeFile.{free_some, free_none}

-- ---- the name, as a number of which the first byte is the low one

abbrev bytes_of : (k v : ℕ) → List ℕ
bytes_of zero v = []
bytes_of (suc k) v = v % 2 ^ 8 ∷ bytes_of k (v / 2 ^ 8)

-- what follows the first byte
abbrev by_byte : (k v mode : ℕ) → KernelState → (at : ℕ) → ℕ → Stay
by_byte k v mode s at b = if nat_eq b (v % 2 ^ 8) then opens_named (bytes_of (k - 1) (v / 2 ^ 8)) mode s (following at) else refuses s no_device

named_more : (k v mode : ℕ) (s : KernelState) (at : ℕ) → 0 < k → opens_named (bytes_of k v) mode s at ≡ reads_byte s at (by_byte k v mode s at)
named_more zero v mode s at h = absurd (omega arith)
named_more (suc k) v mode s at h =
    let e : suc k - 1 ≡ k = omega arith in
    ap (λ j. reads_byte s at (λ b. if nat_eq b (v % 2 ^ 8) then opens_named (bytes_of j (v / 2 ^ 8)) mode s (following at) else refuses s no_device)) (sym e)

low_and : (x : ℕ) → bit_and x 0xFF ≡ x % 2 ^ 8
low_and x = and_mask x 8

shifted : (v : ℕ) → (v % 2 ^ 32 / 2 ^ 8 + v / 2 ^ 32 * 2 ^ 24 % 2 ^ 32) % 2 ^ 32 ≡ v / 2 ^ 8 % 2 ^ 32
shifted v = omega arith

-- ---- the loops

-- at the head of the second, with k files to come
record Searching (stay : Stay) (s : KernelState) (mode k : ℕ) (e : Run) : Type 0 where
  few : k ≤ 16
  holds : Holds s e.bytes
  most : ℕ
  left : Left most_steps stay (opens (free_file s.files) mode s) most
  within : e.steps + 12 * k + 20 ≤ most
  quiet : ports e.seen ≡ []
  before : (j : ℕ) → j < 16 - k → is_none (file s j) ≡ false
  r2 : (e.regs.r2 + 1) % 2 ^ 32 ≡ 16 - k
  r5 : e.regs.r5 ≡ mode
  r8 : e.regs.r8 ≡ 0x80000000 + file_at (16 - k)
  r11 : e.regs.r11 ≡ 0x8000E840
  r14 : e.regs.r14 ≡ 0x80010000

-- at the head of the first, with k bytes of the name to come
record Naming (stay : Stay) (s : KernelState) (a n stop mode k : ℕ) (e : Run) : Type 0 where
  few : k ≤ 7
  v : ℕ
  bytes : ℕ
  holds : Holds s e.bytes
  most : ℕ
  left : Left most_steps stay (opens_named (bytes_of k v) mode s e.regs.r8) most
  within : e.steps + 300 ≤ most
  quiet : ports e.seen ≡ []
  r2 : e.regs.r2 ≡ 0xFFFFFFFF
  r3 : e.regs.r3 ≡ no_device
  r5 : e.regs.r5 ≡ mode
  r6 : e.regs.r6 ≡ v % 2 ^ 32
  r7 : e.regs.r7 ≡ v / 2 ^ 32
  r10 : e.regs.r10 ≡ k
  r11 : e.regs.r11 ≡ stop
  r14 : e.regs.r14 ≡ 0x80010000
  cursor : Cursor a n stop bytes e.regs.r8

module _ (C : Calls) (know : KnowsRoom ROOM C) (stay : Stay) (s : KernelState) (valid : Valid s) (mode : ℕ) (fit : (1 ≤ mode) × (mode ≤ 3)) where
  abbrev G : ℕ → Goal
  G to e = Through stay most_steps to e

  abbrev second : Tree
  second = behind_loop (tree NODES)

  abbrev Search : ℕ → Goal
  Search k e = Searching stay s mode k e

  search : (k : ℕ) (e : Run) → Search k e → Turning C second G Search k e
  search k e h =
      let i : ℕ = 16 - k in
      let few = h.within in
      record {
        leave = λ eq.
            let none : k ≡ 0 = omega (arith, eq, h.r8, h.r11, h.few) in
            let full = free_none s.files (λ j lt. h.before j (omega (arith, lt, none, valid.files_count))) in
            let l = left_is stay _ _ h.most (ap (λ o. opens o mode s) full) h.left in
            rw h.r14 (leaves stay (refuses s no_file_left) h.most (with_errno s no_file_left) _ l h.quiet refl (holds_errno s valid e.bytes h.holds no_file_left) (omega arith));
        again = λ ne.
            let some : 0 < k = omega (arith, λ (z : k ≡ 0). ne (let q : e.regs.r8 ≡ 0x8000E840 = omega (arith, h.r8, z) in q ∙ sym h.r11)) in
            let lt : i < 16 = omega (arith, some) in
            let here : (e.regs.r8 + 0) % 2 ^ 32 ≡ 0x80000000 + file_at i = omega (arith, h.r8, lt) in
            let sort = data_sort (file_at i) (omega arith) (omega arith) (omega (arith, lt)) in
            let at = data_place (file_at i) (omega (arith, lt)) in
            let was = mode_is s valid e.bytes h.holds i lt in
            rw (here, sort, at) (
              λ z.
                  let closed = ap is_none (is_closed (file s i) (mode_fits s valid i lt) (sym was ∙ z)) in
                  let free = free_some s.files i (omega (arith, lt, valid.files_count)) closed h.before in
                  let l = left_is stay _ _ h.most (ap (λ o. opens o mode s) free) h.left in
                  let t : KernelState = with_file s i (Some mode) in
                  let kept : Holds t (put_word e.bytes (file_at i) e.regs.r5) =
                  subst (λ y. Holds t (put_word e.bytes (file_at i) y)) (sym h.r5) (holds_file s valid e.bytes h.holds i mode (Some mode) lt fit refl) in
                  rw (here, sort, at) (leaves stay (answered t i) h.most t _ l h.quiet (ap (answered t) (sym h.r2)) kept (omega arith)),
              λ nz. (
                k - 1,
                omega (arith, some),
                record {
                  few = omega (arith, h.few);
                  holds = h.holds;
                  most = h.most;
                  left = h.left;
                  within = omega (arith, some);
                  quiet = h.quiet;
                  before = λ j up. before_one j i (λ low. h.before j low) (ap not (is_open (file s i) (λ q. nz (was ∙ q)))) (omega (arith, up, some, h.few));
                  r2 = omega (arith, h.r2, some, h.few);
                  r5 = h.r5;
                  r8 = omega (arith, h.r8, some, h.few);
                  r11 = h.r11;
                  r14 = h.r14;
                },
              ),
            );
      }
    where
      before_one : (j i : ℕ) → (j < i → is_none (file s j) ≡ false) → is_none (file s i) ≡ false → j ≤ i → is_none (file s j) ≡ false
      before_one j i low last le = ⊎_elim low (λ (ge : i ≤ j). let q : j ≡ i = omega (arith, ge, le) in subst (λ x. is_none (file s x) ≡ false) (sym q) last) (cases_lt j i)

  module _ (a n stop : ℕ) (span : Span a n stop 1) where
    abbrev Name : ℕ → Goal
    Name k e = Naming stay s a n stop mode k e

    name : (k : ℕ) (e : Run) → Name k e → Turning C (tree NODES) G Name k e
    name k e h =
        let x : ℕ = e.regs.r8 in
        let b : ℕ = byte s.memory (place x) in
        let v : ℕ = h.v in
        let next = by_byte k v mode s x in
        let by : Bool → Stay = λ y. if y then opens_named (bytes_of (k - 1) (v / 2 ^ 8)) mode s (following x) else refuses s no_device in
        let few = h.within in
        record {
          leave = λ z.
              let none : k ≡ 0 = sym h.r10 ∙ z in
              let l = left_is stay _ _ h.most (ap (λ j. opens_named (bytes_of j v) mode s x) none) h.left in
              rw h.r14 (looped C know.fair second G Search search 16 _ record {
                few = omega arith;
                holds = h.holds;
                most = h.most;
                left = l;
                within = omega arith;
                quiet = h.quiet;
                before = λ j lt. absurd (omega (arith, lt));
                r2 = omega (arith, h.r2);
                r5 = h.r5;
                r8 = refl;
                r11 = refl;
                r14 = refl;
              });
          again = λ go.
              let some : 0 < k = omega (arith, λ (z : k ≡ 0). go (h.r10 ∙ z)) in
              let is = named_more k v mode s x some in (
                λ eq.
                    let p = done_bad a n stop 1 h.bytes x span h.cursor (eq ∙ h.r11) (λ z. absurd (omega (arith, z))) in
                    let l = left_unread stay s x next h.most p.user (left_is stay _ _ h.most is h.left) in
                    stops stay (bad_pointer s x) (h.most + 128) s _ l h.quiet refl h.holds (omega arith),
                λ ne.
                    let g = coming a n stop 1 h.bytes x span h.cursor (λ q. ne (q ∙ sym h.r11)) in
                    let l = left_read stay s x next h.most g.user (left_is stay _ _ h.most is h.left) in
                    let same : byte e.bytes (place x) ≡ b = user_byte s e.bytes h.holds x g.user in
                    let low : bit_and e.regs.r6 0xFF ≡ v % 2 ^ 8 = low_and e.regs.r6 ∙ omega (arith, h.r6) in
                    rw (g.here, g.sort, h.r14) (
                      λ other.
                          let refused = left_is stay _ _ (h.most + 128) (ap by (ne_eqb b (v % 2 ^ 8) (λ q. other (same ∙ q ∙ sym low)))) l in
                          let t : KernelState = with_errno s no_device in
                          let kept : Holds t (put_word e.bytes 0xEA1C e.regs.r3) = subst (λ y. Holds t (put_word e.bytes 0xEA1C y)) (sym h.r3) (holds_errno s valid e.bytes h.holds no_device) in
                          leaves stay (refuses s no_device) (h.most + 128) t _ refused h.quiet (ap (answered t) (sym h.r2)) kept (omega arith),
                      λ one.
                          let on = left_is stay _ _ (h.most + 128) (ap by (eq-eqb b (v % 2 ^ 8) (sym same ∙ one ∙ low))) l in (
                            k - 1,
                            omega (arith, some),
                            record {
                              few = omega (arith, h.few);
                              v = v / 2 ^ 8;
                              bytes = h.bytes - 1;
                              holds = h.holds;
                              most = h.most + 128;
                              left = on;
                              within = omega arith;
                              quiet = h.quiet;
                              r2 = h.r2;
                              r3 = h.r3;
                              r5 = h.r5;
                              r6 = (λ j. (h.r6 j / 2 ^ 8 + h.r7 j * 2 ^ 24 % 2 ^ 32) % 2 ^ 32) ∙ shifted v;
                              r7 = ap (λ y. y / 2 ^ 8) h.r7 ∙ omega arith;
                              r10 = omega (arith, h.r10, some, h.few);
                              r11 = h.r11;
                              r14 = refl;
                              cursor = g.next;
                            },
                          ),
                    ),
              );
        }

    -- from where the first loop is reached
    loops : (e : Run) → Left most_steps stay (opens_named console_name mode s e.regs.r8) most_steps → Holds s e.bytes → e.steps ≤ 1000 → ports e.seen ≡ []
        → e.regs.r8 ≡ a → e.regs.r2 ≡ 0xFFFFFFFF → e.regs.r3 ≡ no_device → e.regs.r5 ≡ mode → e.regs.r6 ≡ 0x30797474 → e.regs.r7 ≡ 0x3A30 → e.regs.r10 ≡ 7
        → e.regs.r11 ≡ stop → e.regs.r14 ≡ 0x80010000 → FromLoop C (tree NODES) G e
    loops e l holds few quiet r8 r2 r3 r5 r6 r7 r10 r11 r14 =
        looped C know.fair (tree NODES) G Name name 7 e record {
          few = omega arith;
          v = 0x3A3030797474;
          bytes = n;
          holds = holds;
          most = most_steps;
          left = l;
          within = omega arith;
          quiet = quiet;
          r2 = r2;
          r3 = r3;
          r5 = r5;
          r6 = r6;
          r7 = r7;
          r10 = r10;
          r11 = r11;
          r14 = r14;
          cursor = starting a n stop 1 e.regs.r8 span r8;
        }

-- ---- the mode and the name's pointer

no_mode : (m : ℕ) → m < 2 ^ 32 → 3 ≤ (m + 0xFFFFFFFF) % 2 ^ 32 → (nat_eq m 0 || nat_lt 3 m) ≡ true
no_mode m small h = grind arith

a_mode : (m : ℕ) → m < 2 ^ 32 → (m + 0xFFFFFFFF) % 2 ^ 32 < 3 → (nat_eq m 0 || nat_lt 3 m) ≡ false
a_mode m small h = grind arith

begins : (s : KernelState) (b c : Bool) → let r = registers_of s in (nat_eq r.r5 0 || nat_lt 3 r.r5) ≡ b → nat_eq r.r4 0 ≡ c
    → open_file s ≡ (if b then refuses s bad_mode else if c then refuses s no_device else opens_named console_name r.r5 s r.r4)
begins s b c e g = λ i. let r = registers_of s in if e i then refuses s bad_mode else if g i then refuses s no_device else opens_named console_name r.r5 s r.r4

pub serves : Serves own most_steps (call A00) OPEN (tree NODES)
serves s d z m h =
    let C : Calls = calls kernel_words (own ++ tested_there) in
    let know : KnowsRoom ROOM C = knows_room ROOM tested_there in
    let a : ℕ = (registers_of s).r4 in
    let mode : ℕ = (registers_of s).r5 in
    let n : ℕ = room a + 1 in
    let small : a < 2 ^ 32 = h.words 4 in
    let stay : Stay = open_file s in
    let span = span_some a n 1 small (λ e. absurd (omega (arith, e))) (omega arith) in
    start C know.fair (tree NODES) OPEN (λ _. ⊥) (λ to e. Through stay most_steps to e) (begun (called_with (registers_of s) d) z m) (
      λ none.
          let is = begins s true (nat_eq a 0) (no_mode mode (h.words 5) (false_then _ 3 none)) refl in
          through stay most_steps _ _ refl (answers most_steps (with_errno s bad_mode) _ stay is (holds_errno s h.valid m h.holds bad_mode) (omega arith)),
      λ good.
          let low = true_then _ 3 good in
          let is = a_mode mode (h.words 5) low in
          let fit : (1 ≤ mode) × (mode ≤ 3) = let w = h.words 5 in (omega (arith, low, w), omega (arith, low, w)) in (
            λ null.
                let refused = begins s false true is (eq-eqb a 0 null) in
                through stay most_steps _ _ refl (answers most_steps (with_errno s no_device) _ stay refused (holds_errno s h.valid m h.holds no_device) (omega arith)),
            λ some.
                let l = left_is stay _ _ most_steps (begins s false false is (ne_eqb a 0 some)) (left_all stay) in
                know.room _ _ _ _ _ _ _ small (λ x y p up.
                loops C know stay s h.valid mode fit a n ((a + room a) % 2 ^ 32) span _ l h.holds (omega arith) refl refl refl refl refl refl refl refl refl refl),
          ),
    )
