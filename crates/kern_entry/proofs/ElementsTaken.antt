-- The listing of ELEMENTS goes over the functions of elements.
use Rattle.psx_flow.proofs.Kit.{◌≡◌, ℕ, suc, ◌+◌, ◌*◌, ◌%◌, ◌^◌, ◌<◌, ◌≤◌, ◌⊎◌, inl, inr, List, [], ◌∷◌, length, true, refl, sym, ap, ◌∙◌, subst, arith, Memory, word, put_word, Registers, Cop0, Run, Access, Meets, Goal, Fair, kernel_words, Part, Anew, Count, run, counted, ended, word_sort, Kernel, User, place}
use Rattle.std.proofs.Common.{eq-eqb, ne_eqb}
use Rattle.psx_flow.specs.Meets.{Calls as Calling}
use Rattle.std.specs.Prelude.{Bool, ◌&&◌, nat_eq, if◌then◌else◌}
use Rattle.psx_base.specs.KernelState.{ThreadContext, Task, Element, Second, KernelState}
use Rattle.psx_base.specs.Addresses.{user}
use Rattle.psx_flow.specs.Told.{ports}
use Rattle.psx_flow.proofs.Sound.{sound}
use Rattle.psx_flow.proofs.Users.{sort_user_word}
use Rattle.kern_layout.specs.Fields.{Block}
use Rattle.kern_layout.specs.Tasks.{TasksAt}
use Rattle.kern_layout.specs.Valid.{IsElement, TasksFit}
use Rattle.kern_layout.proofs.MemoryStored.{word_stored}
use Rattle.kern_layout.proofs.Blocks.{put_other}
use Rattle.abs_kernel.specs.Stay.{Stay, Touch}
use Rattle.abs_kernel.specs.Callback.{calls_back}
use Rattle.abs_kernel.specs.Tasks.{work}
use Rattle.abs_kernel.specs.UserWords.{user_word}
use Rattle.abs_kernel.proofs.HeapStays.{bytes_user}
use Rattle.abs_kernel.proofs.TasksLeft.{Left, left_fits, left, with_second}
use Rattle.kern_stay.specs.Shared.{tree}
use Rattle.kern_stay.specs.Doors.{Holds}
use Rattle.kern_stay.proofs.Copying.{data_place, data_sort}
use Rattle.kern_stay.proofs.Looping.{Turning, looped}
use Rattle.kern_stay.proofs.UserWords.{word_is}
use Rattle.kern_entry.specs.declared.places.TheConstants.{ELEMENTS}
use Rattle.kern_entry.specs.declared.elements.TheConstants.{ELEMENTS_NODES}
use Rattle.kern_entry.proofs.TasksHeld.{Sized, Behind, behind_none, behind_put, holds_behind}
use Rattle.kern_entry.proofs.TaskForms.{plain, elements_plain, lines_plain, none_under_way, Parts, tasks_at, parts_same, element_less, touched, touched_more}

-- ---- an element's words

user_low : (a : ℕ) → user a ≡ true → a + 12 < 2 ^ 32
unfolding user
user_low a u = grind arith

-- the function at an offset
record Function (e o : ℕ) : Type 0 where
  here : (e + o) % 2 ^ 32 ≡ e + o
  sort : word_sort (e + o) ≡ User
  good : user_word (e + o) ≡ true

function_at : (e o : ℕ) → IsElement e → o % 4 ≡ 0 → o < 12 → Function e o
function_at e o is al low =
    let first : user e ≡ true = ap user (let z : e ≡ e + 0 = omega arith in z) ∙ bytes_user 12 e 0 is.bytes (omega arith) in
    let small = user_low e first in
    let u : user (e + o) ≡ true = bytes_user 12 e o is.bytes low in
    let even : (e + o) % 4 ≡ 0 = omega (arith, is.aligned, al) in
    record { here = omega (arith, small, low); sort = sort_user_word (e + o) u even; good = λ i. eq-eqb ((e + o) % 4) 0 even i && u i }

-- ---- what the listing comes back with

-- no function is to be called: lines alone are left
pub record Over (s : KernelState) (t : ThreadContext) (value ra : ℕ) (whole : Stay) (ls : List ℕ) (n : Memory) (function : ℕ) : Type 0 where
  pub none : function ≡ 0
  pub touches : ℕ
  pub is : whole ≡ touched touches (work s t (plain [] ls) value ra)
  pub kind : word n 0xEB98 ≡ 0
  pub parts : Parts (word n) [] ls

-- one is
pub record Calls (s : KernelState) (t : ThreadContext) (ra : ℕ) (whole : Stay) (n : Memory) (function argument : ℕ) : Type 0 where
  pub some : function ≡ 0 → ⊥
  pub left : List Task
  pub touches : ℕ
  pub is : whole ≡ touched touches (calls_back s t left function argument ra)
  pub fits : TasksFit (length s.events) left
  pub tasks : TasksAt (word n) 0xEB00 left

pub record Taken (s : KernelState) (t : ThreadContext) (value ra : ℕ) (whole : Stay) (ls : List ℕ) (m n : Memory) (function argument before after : ℕ) : Type 0 where
  pub same : Behind m n
  pub end : Over s t value ra whole ls n function ⊎ Calls s t ra whole n function argument
  pub within : after ≤ before + 450

abbrev pub behind_elements : Registers → Registers → Registers
behind_elements c a = record c { r8 = a.r8; r10 = a.r10; r11 = a.r11; r16 = a.r16; r17 = a.r17 }

abbrev pub ElementsKnown : Part → KernelState → ThreadContext → (ra : ℕ) → Stay → List ℕ → Memory → Registers → List Access → Count → Type 0
ElementsKnown K s t ra whole ls m c q p =
    (a : Registers) (z : Cop0) (n : Memory) (u : List Access) (p' : Count) → ports u ≡ ports q → Taken s t c.r2 ra whole ls m n a.r16 a.r17 p.steps p'.steps → K (behind_elements c a) z n [] u p'

-- what it begins with: elements and lines, behind a second function or not
pub record First (s : KernelState) (t : ThreadContext) (ra : ℕ) (whole : Stay) (es ls : List ℕ) (m : Memory) (c : Registers) : Type 0 where
  pub r8 : c.r8 ≡ 0
  pub kind : word m 0xEB98 ≡ 0
  pub is : whole ≡ work s t (plain es ls) c.r2 ra

pub record AfterFirst (s : KernelState) (t : ThreadContext) (ra : ℕ) (whole : Stay) (es ls : List ℕ) (m : Memory) (c : Registers) : Type 0 where
  pub element : ℕ
  pub r8 : c.r8 ≡ 0 → ⊥
  pub fits : IsElement element
  pub first : word m 0xEB9C ≡ element
  pub is : whole ≡ work s t (Second element ∷ plain es ls) c.r2 ra

-- ---- the loop

-- at its head, with k elements to come
record Head (s : KernelState) (t : ThreadContext) (ra : ℕ) (whole : Stay) (ls : List ℕ) (m : Memory) (c : Registers) (q : List Access) (p : Count) (k : ℕ) (e : Run) : Type 0 where
  es : List ℕ
  count : length es ≡ k
  touches : ℕ
  is : whole ≡ touched touches (work s t (plain es ls) c.r2 ra)
  fits : Left (length s.events) (plain es ls)
  within : e.steps + 13 * k ≤ p.steps + 440
  same : Behind m e.bytes
  kind : word e.bytes 0xEB98 ≡ 0
  parts : Parts (word e.bytes) es ls
  quiet : ports e.seen ≡ ports q
  regs : e.regs ≡ behind_elements c e.regs
  r10 : e.regs.r10 ≡ k
  r17 : e.regs.r17 ≡ 0

module _ (C : Calling) (fair : Fair C) (s : KernelState) (t : ThreadContext) (z : Sized s) (ra : ℕ) (whole : Stay) (ls : List ℕ) (m : Memory) (holds : Holds (record s { running = t }) m) (c : Registers) (r14 : c.r14 ≡ 0x80010000) (q : List Access) (p : Count)
    (K : Part) (known : ElementsKnown K s t ra whole ls m c q p) where
  abbrev G : ℕ → Goal
  G to e = (to ≡ c.r31) × Anew K e

  abbrev Inv : ℕ → Goal
  Inv k e = Head s t ra whole ls m c q p k e

  -- back to the caller
  comes : (e : Run) → e.regs ≡ behind_elements c e.regs → ports e.seen ≡ ports q → Taken s t c.r2 ra whole ls m e.bytes e.regs.r16 e.regs.r17 p.steps e.steps → G e.regs.r31 e
  comes e kept quiet done = (
    ap (λ r. r.r31) kept,
    record { memory = e.bytes; log = []; same = refl; sorted = tt; goes = subst (λ r. K r e.cop0 e.bytes [] e.seen (counted e)) (sym kept) (known e.regs e.cop0 e.bytes e.seen (counted e) quiet done) },
  )

  -- a function's word is the state's
  value_at : (n : Memory) → Behind m n → (e o : ℕ) → Function e o → word n (place (e + o)) ≡ word s.memory (place (e + o))
  value_at n b e o f = word_is (record s { running = t }) n (holds_behind s t z m n b holds) (e + o) f.good

  few_lines : (es : List ℕ) → Left (length s.events) (plain es ls) → (length es ≤ 32) × (length ls ≤ 4)
  few_lines es l = (subst (λ x. length x ≤ 32) (elements_plain es ls) l.elements, subst (λ x. length x ≤ 4) (lines_plain es ls) l.lines)

  module _ (k : ℕ) (e : Run) (h : Inv k e) where
    at_end : h.es ≡ [] → Turning C (tree ELEMENTS_NODES) G Inv k e
    at_end y =
        let none : k ≡ 0 = sym h.count ∙ ap length y in
        let within = h.within in
        record {
          leave = λ eq. comes _ (λ j. record (h.regs j) { r16 = 0 }) h.quiet record {
            same = h.same;
            end = inl (record {
              none = refl;
              touches = h.touches;
              is = h.is ∙ ap (λ es. touched h.touches (work s t (plain es ls) c.r2 ra)) y;
              kind = h.kind;
              parts = subst (λ es. Parts (word e.bytes) es ls) y h.parts;
            });
            within = omega (arith, within);
          };
          again = λ ne. absurd (ne (h.r10 ∙ none));
        }

    at_element : (x : ℕ) (es : List ℕ) → h.es ≡ x ∷ es → Turning C (tree ELEMENTS_NODES) G Inv k e
    at_element x es y =
        let within = h.within in
        let len : suc (length es) ≡ k = sym (ap length y) ∙ h.count in
        let r10 = h.r10 in
        let upper : e.regs.r14 ≡ 0x80010000 = ap (λ r. r.r14) h.regs ∙ r14 in
        let fits : TasksFit (length s.events) (plain (x ∷ es) ls) = left_fits (length s.events) (plain (x ∷ es) ls) (subst (λ xs. Left (length s.events) (plain xs ls)) y h.fits) in
        let rest : Left (length s.events) (plain es ls) = left (length s.events) (Element x) (plain es ls) fits in
        let few = few_lines es rest in
        let small : k ≤ 33 = omega (arith, len, few.0) in
        let is = h.is ∙ ap (λ xs. touched h.touches (work s t (plain xs ls) c.r2 ra)) y in
        let ok : IsElement x = fits.each.0 in
        let f = function_at x 8 ok refl (omega arith) in
        let parts : Parts (word e.bytes) (x ∷ es) ls = subst (λ xs. Parts (word e.bytes) xs ls) y h.parts in
        let there : word e.bytes (0xEC00 + 4 * length es) ≡ x = parts.elements.0 in
        let less : (e.regs.r10 + 0xFFFFFFFF) % 2 ^ 32 ≡ length es = omega (arith, r10, len, small) in
        let here : ((length es * 2 ^ 2 % 2 ^ 32 + 0x80010000) % 2 ^ 32 + 0xFFFFEC00) % 2 ^ 32 ≡ 0x80000000 + (0xEC00 + 4 * length es) = omega (arith, few.0) in
        let sort : word_sort (0x80000000 + (0xEC00 + 4 * length es)) ≡ Kernel = data_sort (0xEC00 + 4 * length es) (omega arith) (omega arith) (omega (arith, few.0)) in
        let at : place (0x80000000 + (0xEC00 + 4 * length es)) ≡ 0xEC00 + 4 * length es = data_place (0xEC00 + 4 * length es) (omega (arith, few.0)) in
        let n1 : Memory = put_word e.bytes 0xEBA8 (length es) in
        let b1 : Behind m n1 = behind_put m e.bytes 0xEBA8 (length es) refl (omega arith) (omega arith) h.same in
        let value = value_at e.bytes h.same x 8 f in
        let stored : (a : ℕ) → a % 4 ≡ 0 → (a ≡ 0xEBA8 → ⊥) → word n1 a ≡ word e.bytes a = λ a al ne. word_stored e.bytes 0xEBA8 (length es) a refl al ∙ put_other (word e.bytes) 0xEBA8 (length es) a ne in
        let parts1 : Parts (word n1) es ls = element_less (word e.bytes) (word n1) x es ls few.0 few.1 (word_stored e.bytes 0xEBA8 (length es) 0xEBA8 refl refl) (λ a al lo up. stored a al (λ q. omega (arith, q, lo))) parts in
        let F : ℕ = word s.memory (place (x + 8)) in
        let step = λ (b : Bool). touched h.touches (Touch 4 (if b then work s t (plain es ls) c.r2 ra else calls_back s t (Second x ∷ plain es ls) F 0 ra)) in
        record {
          leave = λ eq. absurd (let zero : k ≡ 0 = sym r10 ∙ eq in omega (arith, zero, len));
          again = λ ne. rw (upper, less, here, sort, at, there, f.here, f.sort) (
            λ some.
                let n2 : Memory = put_word n1 0xEB9C x in
                let n3 : Memory = put_word n2 0xEB98 1 in
                let b3 : Behind m n3 = behind_put m n2 0xEB98 1 refl (omega arith) (omega arith) (behind_put m n1 0xEB9C x refl (omega arith) (omega arith) b1) in
                let above : (a : ℕ) → a % 4 ≡ 0 → 0xEBA0 ≤ a → word n3 a ≡ word n1 a = λ a al lo.
                word_stored n2 0xEB98 1 a refl al ∙ put_other (word n2) 0xEB98 1 a (λ q. omega (arith, q, lo)) ∙ word_stored n1 0xEB9C x a refl al ∙ put_other (word n1) 0xEB9C x a (λ q. omega (arith, q, lo)) in
                let first : word n3 0xEB9C ≡ x = word_stored n2 0xEB98 1 0xEB9C refl refl ∙ word_stored n1 0xEB9C x 0xEB9C refl refl in
                comes _
                (λ j. record (h.regs j) { r8 = x; r10 = length es; r11 = 1; r14 = sym r14 j; r16 = word e.bytes (place (x + 8)) }) h.quiet record {
                  same = b3;
                  end = inr (record {
                    some = some;
                    left = Second x ∷ plain es ls;
                    touches = suc h.touches;
                    is = is ∙ ap step (ne_eqb F 0 (λ q. some (value ∙ q))) ∙ touched_more h.touches (calls_back s t (Second x ∷ plain es ls) F 0 ra)
                        ∙ (λ j. touched (suc h.touches) (calls_back s t (Second x ∷ plain es ls) (sym value j) (sym h.r17 j) ra));
                    fits = with_second (length s.events) x (plain es ls) ok rest;
                    tasks = tasks_at (word n3) (Second x ∷ plain es ls) es ls (elements_plain es ls) (lines_plain es ls) (word_stored n2 0xEB98 1 0xEB98 refl refl, (first, tt))
                        (parts_same (word n1) (word n3) es ls few.0 few.1 (λ a al lo up. above a al (omega (arith, lo))) parts1);
                  });
                  within = omega (arith, within, len);
                },
            λ none. (
              length es,
              omega (arith, len),
              record {
                es = es;
                count = refl;
                touches = suc h.touches;
                is = is ∙ ap step (eq-eqb F 0 (sym value ∙ none)) ∙ touched_more h.touches (work s t (plain es ls) c.r2 ra);
                fits = rest;
                within = omega (arith, within, len);
                same = b1;
                kind = stored 0xEB98 refl (λ q. omega (arith, q)) ∙ h.kind;
                parts = parts1;
                quiet = h.quiet;
                regs = λ j. record (h.regs j) { r8 = x; r10 = length es; r11 = (length es * 2 ^ 2 % 2 ^ 32 + 0x80010000) % 2 ^ 32; r14 = sym r14 j; r16 = word e.bytes (place (x + 8)) };
                r10 = refl;
                r17 = h.r17;
              },
            ),
          );
        }

  turn : (k : ℕ) (e : Run) → Inv k e → Turning C (tree ELEMENTS_NODES) G Inv k e
  turn k e h = by h.es refl
    where
      by : (l : List ℕ) → h.es ≡ l → Turning C (tree ELEMENTS_NODES) G Inv k e
      by [] y = at_end k e h y
      by (x ∷ es) y = at_element k e h x es y

  -- the loop is come to
  begins : (es : List ℕ) (e : Run) (touches : ℕ) → Left (length s.events) (plain es ls) → Parts (word m) es ls → whole ≡ touched touches (work s t (plain es ls) c.r2 ra) → Behind m e.bytes → word e.bytes 0xEB98 ≡ 0
      → ((a : ℕ) → a % 4 ≡ 0 → 0xEBA8 ≤ a → word e.bytes a ≡ word m a) → e.regs ≡ behind_elements c e.regs → ports e.seen ≡ ports q → e.regs.r10 ≡ word m 0xEBA8 → e.regs.r17 ≡ 0 → e.steps ≤ p.steps + 20 → Inv (length es) e
  begins es e touches fits parts is same kind stay regs quiet r10 r17 few =
      let n = few_lines es fits in
      record {
        es = es;
        count = refl;
        touches = touches;
        is = is;
        fits = fits;
        within = omega (arith, few, n.0);
        same = same;
        kind = kind;
        parts = parts_same (word m) (word e.bytes) es ls n.0 n.1 (λ a al lo up. stay a al lo) parts;
        quiet = quiet;
        regs = regs;
        r10 = r10 ∙ parts.element_count;
        r17 = r17;
      }

  abbrev Listed : Cop0 → Type 0
  Listed z = Meets kernel_words C (tree ELEMENTS_NODES) ELEMENTS (λ _. ⊥) G (run c z m [] q p)

  pub takes_first : (es : List ℕ) (z : Cop0) → Left (length s.events) (plain es ls) → Parts (word m) es ls → First s t ra whole es ls m c → Listed z
  takes_first es z0 fits parts first =
      sound C fair (tree ELEMENTS_NODES) ELEMENTS (ended (λ _. ⊥)) (λ _. ⊥) G (λ c z m w q p ok h. h) c z0 m [] q p tt (
        λ some. absurd (some first.r8),
        λ none. rw (r14) (looped C fair (tree ELEMENTS_NODES) G Inv turn (length es) _
            (begins es _ 0 fits parts first.is (behind_none m) first.kind (λ a al lo. refl) (λ j. record c { r10 = word m 0xEBA8; r14 = sym r14 j; r17 = 0 }) refl refl refl (omega arith))),
      )

  pub takes_second : (es : List ℕ) (z : Cop0) → Left (length s.events) (plain es ls) → Parts (word m) es ls → AfterFirst s t ra whole es ls m c → Listed z
  takes_second es z0 fits parts h =
      let x : ℕ = h.element in
      let f = function_at x 4 h.fits refl (omega arith) in
      let few = few_lines es fits in
      let n1 : Memory = put_word m 0xEB98 0 in
      let b1 : Behind m n1 = behind_put m m 0xEB98 0 refl (omega arith) (omega arith) (behind_none m) in
      let stays : (a : ℕ) → a % 4 ≡ 0 → 0xEBA8 ≤ a → word n1 a ≡ word m a = λ a al lo. word_stored m 0xEB98 0 a refl al ∙ put_other (word m) 0xEB98 0 a (λ q. omega (arith, q, lo)) in
      let kind : word n1 0xEB98 ≡ 0 = word_stored m 0xEB98 0 0xEB98 refl refl in
      let value = value_at m (behind_none m) x 4 f in
      let F : ℕ = word s.memory (place (x + 4)) in
      let T : Stay = work s t (plain es ls) c.r2 ra in
      let step = λ (b d : Bool). (if b then T else Touch 4 (if d then T else calls_back s t (plain es ls) F c.r2 ra)) in
      sound C fair (tree ELEMENTS_NODES) ELEMENTS (ended (λ _. ⊥)) (λ _. ⊥) G (λ c z m w q p ok h. h) c z0 m [] q p tt (
        λ some. rw (r14) (
          λ answer. rw (h.first, f.here, f.sort) (
            λ there. comes _
                (λ j. record c { r11 = x; r14 = sym r14 j; r16 = word m (place (x + 4)); r17 = c.r2 }) refl record {
                  same = b1;
                  end = inr (record {
                    some = there;
                    left = plain es ls;
                    touches = 1;
                    is = h.is ∙ (λ j. step (ne_eqb c.r2 0 answer j) (ne_eqb F 0 (λ q. there (value ∙ q)) j)) ∙ ap (λ g. Touch 4 (calls_back s t (plain es ls) g c.r2 ra)) (sym value);
                    fits = left_fits (length s.events) (plain es ls) fits;
                    tasks = tasks_at (word n1) (plain es ls) es ls (elements_plain es ls) (lines_plain es ls) (subst (Block (word n1) 0xEB00) (sym (none_under_way es ls)) (kind, tt))
                        (parts_same (word m) (word n1) es ls few.0 few.1 (λ a al lo up. stays a al lo) parts);
                  });
                  within = omega arith;
                },
            λ none. looped C fair (tree ELEMENTS_NODES) G Inv turn (length es) _
                (begins es _ 1 fits parts (h.is ∙ (λ j. step (ne_eqb c.r2 0 answer j) (eq-eqb F 0 (sym value ∙ none) j))) b1 kind stays
                (λ j. record c { r10 = word m 0xEBA8; r11 = x; r14 = sym r14 j; r16 = word m (place (x + 4)); r17 = 0 }) refl refl refl (omega arith)),
          ),
          λ zero. looped C fair (tree ELEMENTS_NODES) G Inv turn (length es) _
              (begins es _ 0 fits parts (h.is ∙ ap (λ b. step b (nat_eq F 0)) (eq-eqb c.r2 0 zero)) b1 kind stays (λ j. record c { r10 = word m 0xEBA8; r14 = sym r14 j; r17 = 0 }) refl refl refl (omega arith)),
        ),
        λ none. absurd (h.r8 none),
      )
