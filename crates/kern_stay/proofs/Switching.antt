-- What the stores of a switch of threads make of the state: the area is settled, copied to the running slot, and filled from the other slot.
use Rattle.std.proofs.Common.{◌≡◌, ℕ, ◌+◌, ◌-◌, ◌*◌, ◌/◌, ◌%◌, ◌<◌, ◌≤◌, ◌⊎◌, inl, inr, [], true, false, Option, None, refl, sym, ap, ◌∙◌, subst, arith, ⊎_elim, length, get_or-set_same, get_or-set_other, ne_eqb}
use Rattle.std.specs.Prelude.{nat_eq, slice_index_or, slice_set, if◌then◌else◌}
use Rattle.std.proofs.lemmas.Bool.{cases_eq, cases_lt}
use Rattle.psx_base.specs.Memory.{Memory, byte, word, put_word}
use Rattle.psx_base.specs.Context.{Context, taken, epc_of, IsAtRest}
use Rattle.psx_base.specs.KernelState.{ThreadContext, Thread, Free, Used, KernelState}
use Rattle.psx_ram.specs.Apart.{apart}
use Rattle.psx_ram.proofs.Laws.{byte-put_word_apart}
use Rattle.kern_layout.specs.Fields.{Fields, Block}
use Rattle.kern_layout.specs.Contexts.{saved, thread_fields}
use Rattle.kern_layout.specs.Stores.{put, with_field}
use Rattle.kern_layout.specs.Reads.{Reads, thread, thread_at}
use Rattle.kern_layout.specs.Valid.{Valid, ThreadRests}
use Rattle.kern_layout.proofs.Blocks.{inside, block_same, block_put, put_here, put_other}
use Rattle.kern_layout.proofs.Copied.{context_copied}
use Rattle.kern_layout.proofs.MemoryStored.{word_stored}
use Rattle.kern_layout.proofs.Moved.{reads_switched}
use Rattle.kern_layout.proofs.Written.{reads_free}
use Rattle.abs_kernel.specs.Answered.{registers_of, with_answer}
use Rattle.abs_kernel.specs.Switching.{caller, keeps, context_of}
use Rattle.kern_stay.specs.Copy.{WordsCopied}
use Rattle.kern_stay.specs.Switch.{settle_area, SlotKept, Switches}
use Rattle.kern_stay.specs.Doors.{Holds}
use Rattle.kern_stay.proofs.Holding.{user_high}

-- ---- stores

stored : (m : Memory) (p v a : ℕ) → p % 4 ≡ 0 → a % 4 ≡ 0 → (a ≡ p → ⊥) → word (put_word m p v) a ≡ word m a
stored m p v a al am ne = word_stored m p v a al am ∙ put_other (word m) p v a ne

apart_out : (p a : ℕ) → (a < p) ⊎ (p + 4 ≤ a) → apart p 4 a 1 ≡ true
apart_out p a h = grind arith

-- a store to a field of the area
pub area_put : (m : Memory) (o v : ℕ) (f g : Fields) → o % 4 ≡ 0 → inside 0 0x98 g ≡ true → with_field f o v ≡ g → Block (word m) 0xEB00 f → Block (word (put_word m (0xEB00 + o) v)) 0xEB00 g
area_put m o v f g al i e h =
    let P : Fields → Type 0 = λ x. Block (put (word m) (0xEB00 + o) v) 0xEB00 x in
    block_same (put (word m) (0xEB00 + o) v) (word (put_word m (0xEB00 + o) v)) 0xEB00 0 0x98 g refl i (λ a ala lo up. word_stored m (0xEB00 + o) v a (omega arith) ala) (subst P e (block_put (word m) 0xEB00 o v f h))

-- with nothing pending
abbrev at_once : Context → Option (ℕ × ℕ) → (at value : ℕ) → Context
at_once c o at value = with_answer (taken (record c { pending = o }) at) value

pub area_settled : (m : Memory) (t : ThreadContext) → t.context.pending ≡ None → (at value : ℕ) → Block (word m) 0xEB00 (saved t) → Block (word (settle_area m value at)) 0xEB00 (saved (record t { context = with_answer (taken t.context at) value }))
area_settled m t none at value h =
    let n : Memory = put_word m 0xEB10 value in
    let P : Option (ℕ × ℕ) → Type 0 = λ o. Block (word (settle_area m value at)) 0xEB00 (saved (record t { context = at_once t.context o at value })) in
    subst P (sym none) (area_put n 0x88 at (with_field (saved t) 0x10 value) _ refl refl refl (area_put m 0x10 value (saved t) _ refl refl refl h))

-- ---- copies

-- 35 words from r1's place on are a context
pub context_of_words : (m n : Memory) (at to : ℕ) (t : ThreadContext) → WordsCopied m n (at + 0xC) (to + 0xC) 35 → Block (word m) at (saved t) → Block (word n) to (saved t)
context_of_words m n at to t c h =
    context_copied (word m) (word n) at to t
    (λ o al lo up.
    let k : ℕ = (o - 0xC) / 4 in
    let p : to + 0xC + 4 * k ≡ to + o = omega (arith, al, lo) in
    let q : at + 0xC + 4 * k ≡ at + o = omega (arith, al, lo) in
    sym (ap (word n) p) ∙ c.copied k (omega (arith, lo, up)) ∙ ap (word m) q) h

record Stays (m n : Memory) (to : ℕ) : Type 0 where
  words : (a : ℕ) → a % 4 ≡ 0 → (a < to + 0xC) ⊎ (to + 0x98 ≤ a) → word n a ≡ word m a
  bytes : (a : ℕ) → (a < to + 0xC) ⊎ (to + 0x98 ≤ a) → byte n a ≡ byte m a

copy_stays : (m n : Memory) (from to : ℕ) → WordsCopied m n from (to + 0xC) 35 → Stays m n to
copy_stays m n from to c = record {
  words = λ a al o. c.words a al (⊎_elim (λ l. inl l) (λ g. inr (omega (arith, g))) o);
  bytes = λ a o. c.bytes a (⊎_elim (λ l. inl l) (λ g. inr (omega (arith, g))) o);
}

kept_stays : (t : Thread) (m n : Memory) (to : ℕ) → SlotKept t m n to → Stays m n to
kept_stays Free m n to e = record { words = λ a al o. ap (λ x. word x a) e; bytes = λ a o. ap (λ x. byte x a) e }
kept_stays (Used u) m n to c = copy_stays m n 0xEB0C to c

-- ---- the area settled

pub caller_rests : (s : KernelState) → IsAtRest (caller s).context
caller_rests s = record { follows = refl; no_slot = refl; k0 = refl; k1 = refl; none_pending = refl }

pub settled_holds : (s : KernelState) → Valid s → (m : Memory) → Holds s m → Holds (record s { running = caller s }) (settle_area m 1 (registers_of s).r31)
settled_holds s valid m holds =
    let at : ℕ = (registers_of s).r31 in
    let ready : Memory = settle_area m 1 at in
    let words : (a : ℕ) → a % 4 ≡ 0 → a < 0xEB00 → word ready a ≡ word m a
    = λ a al low. stored (put_word m 0xEB10 1) 0xEB88 at a refl al (λ e. omega (arith, e, low)) ∙ stored m 0xEB10 1 a refl al (λ e. omega (arith, e, low)) in
    let bytes : (a : ℕ) → (a < 0xEB00) ⊎ (0x10000 ≤ a) → byte ready a ≡ byte m a
    = λ a o. byte-put_word_apart (put_word m 0xEB10 1) 0xEB88 at a (apart_out 0xEB88 a (⊎_elim (λ l. inl (omega (arith, l))) (λ g. inr (omega (arith, g))) o))
    ∙ byte-put_word_apart m 0xEB10 1 a (apart_out 0xEB10 a (⊎_elim (λ l. inl (omega (arith, l))) (λ g. inr (omega (arith, g))) o)) in
    let r = reads_free s valid (word m) (word ready) (byte m) (byte ready) (λ a lo up. bytes a (inl (omega (arith, up))))
    (λ a al lo up. words a al (omega (arith, up, valid.frames_most))) (λ a al lo up. words a al (omega (arith, up))) (λ a al lo up. words a al up) holds.reads in
    record {
      settled = refl;
      area = area_settled m s.running holds.settled at 1 holds.area;
      reads = record { threads = r.threads; events = r.events; frames = r.frames; chains = r.chains; heap = r.heap; files = r.files; line = r.line; variables = r.variables };
      user = λ a u. bytes a (inr (user_high a u)) ∙ holds.user a u;
    }

-- ---- the switch

-- the running slot keeps a context, and thread n's is taken up
abbrev pub switched_from : KernelState → ThreadContext → (n : ℕ) → KernelState
switched_from s c n =
    let threads = slice_set s.threads s.current (keeps c (thread s s.current)) in
    record s { threads = threads; current = n; running = context_of (slice_index_or threads n Free) }

module _ (s : KernelState) (valid : Valid s) (c : ThreadContext) (at_rest : IsAtRest c.context) (ready : Memory) (holds : Holds (record s { running = c }) ready) (n : ℕ) (few : n < length s.threads) (other : ThreadContext) (used : thread s n ≡ Used other) where
  abbrev at : ℕ
  at = thread_at s.current

  module _ (kept_in : Memory) (kept : SlotKept (thread s s.current) ready kept_in at) (filled : Memory) (fills : WordsCopied kept_in filled (thread_at n + 0xC) 0xEB0C 35) where
    abbrev last : Memory
    last = put_word filled 0xEA00 n

    abbrev now : Thread
    now = keeps c (thread s s.current)

    small : at + 0xC0 ≤ 0xBC00
    small = omega (arith, valid.current, valid.threads_most)

    first : Stays ready kept_in at
    first = kept_stays (thread s s.current) ready kept_in at kept

    second : Stays kept_in filled 0xEB00
    second = copy_stays kept_in filled (thread_at n + 0xC) 0xEB00 fills

    -- the words that stay
    from_kept : (a : ℕ) → a % 4 ≡ 0 → a < 0xEB00 → (a ≡ 0xEA00 → ⊥) → word last a ≡ word kept_in a
    from_kept a al low ne = stored filled 0xEA00 n a refl al ne ∙ second.words a al (inl (omega (arith, low)))

    same : (a : ℕ) → a % 4 ≡ 0 → a < 0xEB00 → (a ≡ 0xEA00 → ⊥) → (a < at + 0xC) ⊎ (at + 0x98 ≤ a) → word last a ≡ word ready a
    same a al low ne out = from_kept a al low ne ∙ first.words a al out

    outside : (a : ℕ) → (a < at + 0xC) ⊎ (at + 0x98 ≤ a) → (a < 0xEA00) ⊎ (0x10000 ≤ a) → byte last a ≡ byte ready a
    outside a out o =
        byte-put_word_apart filled 0xEA00 n a (apart_out 0xEA00 a (⊎_elim (λ l. inl l) (λ g. inr (omega (arith, g))) o))
        ∙ second.bytes a (⊎_elim (λ l. inl (omega (arith, l))) (λ g. inr (omega (arith, g))) o)
        ∙ first.bytes a out

    status : word last (at + 0) ≡ word ready (at + 0)
    status = same (at + 0) (omega arith) (omega (arith, small)) (λ e. omega (arith, e, small)) (inl (omega arith))

    -- the running slot's block
    slot : (t : Thread) → SlotKept t ready kept_in at → Block (word ready) at (thread_fields s.current s.current t) → Block (word last) at (thread_fields n s.current (keeps c t))
    slot Free e old = (status ∙ old.0, tt)
    slot (Used u) copied old =
        let there : Block (word kept_in) at (saved c) = context_of_words ready kept_in 0xEB00 at c copied holds.area in
        let late : Block (word last) at (saved c) = block_same (word kept_in) (word last) at 0 0x98 (saved c) (omega arith) refl (λ a al lo up. from_kept a al (omega (arith, up, small)) (λ e. omega (arith, e, up, small))) there in
        (status ∙ old.0, chosen (nat_eq s.current n) late)
      where
        chosen : (b : _) → Block (word last) at (saved c) → Block (word last) at (if b then [] else saved c)
        chosen true h = tt
        chosen false h = h

    -- the context that is taken up
    abbrev taken_up : ThreadContext
    taken_up = context_of (slice_index_or (slice_set s.threads s.current now) n Free)

    reads : Reads (switched_from s c n) (word last) (byte last)
    reads =
        let o = holds.reads in
        let old : Reads s (word ready) (byte ready) = record { threads = o.threads; events = o.events; frames = o.frames; chains = o.chains; heap = o.heap; files = o.files; line = o.line; variables = o.variables } in
        let r = reads_switched s valid (word ready) (word last) (byte ready) (byte last) (λ a lo up. outside a (inr (omega (arith, lo, small))) (inl (omega (arith, up)))) n now
        (λ a al lo up. same a al (omega (arith, up, small)) (λ e. omega (arith, e, up, small)) (inl (omega (arith, up))))
        (λ a al lo up. same a al (omega (arith, up)) (λ e. omega (arith, e, up)) (inr (omega (arith, lo))))
        (λ a al lo up. same a al up (λ e. omega (arith, e, lo)) (inr (omega (arith, lo, small))))
        (slot (thread s s.current) kept (holds.reads.threads s.current valid.current))
        (word_stored filled 0xEA00 n 0xEA00 refl refl ∙ put_here (word filled) 0xEA00 n) old in
        record { threads = r.threads; events = r.events; frames = r.frames; chains = r.chains; heap = r.heap; files = r.files; line = r.line; variables = r.variables }

    -- the other slot's context, before it is copied
    filled_area : Block (word filled) 0xEB00 (saved taken_up)
    filled_area = ⊎_elim same_slot other_slot (cases_eq n s.current)
      where
        back : (t : ThreadContext) → slice_index_or (slice_set s.threads s.current now) n Free ≡ Used t → Block (word kept_in) (thread_at n) (saved t) → Block (word filled) 0xEB00 (saved taken_up)
        back t e h = subst (λ x. Block (word filled) 0xEB00 (saved (context_of x))) (sym e) (context_of_words kept_in filled (thread_at n) 0xEB00 t fills h)

        same_slot : n ≡ s.current → Block (word filled) 0xEB00 (saved taken_up)
        same_slot e =
            let here : thread s s.current ≡ Used other = ap (thread s) (sym e) ∙ used in
            let there : Block (word kept_in) at (saved c) = context_of_words ready kept_in 0xEB00 at c (subst (λ t. SlotKept t ready kept_in at) here kept) holds.area in
            back c (ap (λ x. slice_index_or (slice_set s.threads s.current now) x Free) e ∙ get_or-set_same s.threads s.current now Free valid.current ∙ ap (keeps c) here)
            (subst (λ x. Block (word kept_in) (thread_at x) (saved c)) (sym e) there)

        other_slot : (n ≡ s.current → ⊥) → Block (word filled) 0xEB00 (saved taken_up)
        other_slot ne =
            let fields : Block (word ready) (thread_at n) (if nat_eq n s.current then [] else saved other) = (subst (λ t. Block (word ready) (thread_at n) (thread_fields s.current n t)) used (holds.reads.threads n few)).1 in
            let old : Block (word ready) (thread_at n) (saved other) = subst (λ b. Block (word ready) (thread_at n) (if b then [] else saved other)) (ne_eqb n s.current ne) fields in
            back other (get_or-set_other s.threads s.current n now Free ne ∙ used)
            (block_same (word ready) (word kept_in) (thread_at n) 0 0x98 (saved other) (omega arith) refl
            (λ a al lo up. first.words a al (⊎_elim (λ (l : n < s.current). inl (omega (arith, up, l))) (λ (g : s.current ≤ n). inr (omega (arith, lo, g, ne))) (cases_lt n s.current))) old)

    -- it is at rest
    pub rests : IsAtRest taken_up.context
    rests = ⊎_elim same_slot other_slot (cases_eq n s.current)
      where
        back : (t : ThreadContext) → slice_index_or (slice_set s.threads s.current now) n Free ≡ Used t → IsAtRest t.context → IsAtRest taken_up.context
        back t e h = subst (λ x. IsAtRest (context_of x).context) (sym e) h

        same_slot : n ≡ s.current → IsAtRest taken_up.context
        same_slot e =
            back c (ap (λ x. slice_index_or (slice_set s.threads s.current now) x Free) e ∙ get_or-set_same s.threads s.current now Free valid.current ∙ ap (keeps c) (ap (thread s) (sym e) ∙ used))
            at_rest

        other_slot : (n ≡ s.current → ⊥) → IsAtRest taken_up.context
        other_slot ne = back other (get_or-set_other s.threads s.current n now Free ne ∙ used) (subst ThreadRests used (valid.threads n Free few))

    pub made : Holds (switched_from s c n) last
    made = record {
      settled = rests.none_pending;
      area = block_same (word filled) (word last) 0xEB00 0 0x98 (saved taken_up) refl refl (λ a al lo up. stored filled 0xEA00 n a refl al (λ e. omega (arith, e, lo))) filled_area;
      reads = reads;
      user = λ a u. (let high = user_high a u in outside a (inr (omega (arith, high, small))) (inr high)) ∙ holds.user a u;
    }

pub switches : Switches
switches s valid m holds n few other used kept_in kept filled fills =
    made s valid (caller s) (caller_rests s) (settle_area m 1 (registers_of s).r31) (settled_holds s valid m holds) n few other used kept_in kept filled fills

-- a context at rest is taken up as it is
pub rest_taken : (c : Context) → IsAtRest c → c ≡ taken c (epc_of c)
rest_taken c h =
    (λ i. record { regs = record c.regs { r26 = h.k0 i; r27 = h.k1 i }; pending = h.none_pending i; pc = c.pc; next = h.follows i; in_slot = h.no_slot i })
    ∙ sym (λ i. taken (record c { pending = h.none_pending i; in_slot = h.no_slot i }) (epc_of (record c { in_slot = h.no_slot i })))
