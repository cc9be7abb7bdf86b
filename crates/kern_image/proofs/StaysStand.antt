-- Behind a return the processor and its memory stand for the state, where memory has changed in the kernel's stack alone.
use Rattle.std.proofs.Common.{◌≡◌, ℕ, ◌+◌, ◌*◌, ◌%◌, ◌^◌, ◌<◌, ◌≤◌, Bool, true, false, List, [], ◌∷◌, refl, sym, ◌∙◌, subst, arith, inl, inr, ⊎_elim}
use Rattle.std.specs.Prelude.{◌||◌, ◌&&◌, nat_le, nat_lt, if◌then◌else◌}
use Rattle.std.specs.List.{list_any, list_all}
use Rattle.std.proofs.lemmas.Bool.{false≢true, and_parts, or_cases, leb-true, ltb-true}
use Rattle.psx_base.specs.Addresses.{user_main, scratchpad}
use Rattle.psx_base.specs.Memory.{Memory, byte, word}
use Rattle.psx_base.specs.KernelState.{ThreadContext, KernelState}
use Rattle.psx_base.specs.Items.{Entrance, ByA, ByB, ByC, BySyscall, ByInterrupt, ByDone, ByBack, ByTrap}
use Rattle.psx_cpu.specs.Processor.{Core}
use Rattle.kern_layout.specs.declared.ranges.Range.{Range}
use Rattle.kern_layout.specs.declared.ranges.TheConstants.{STACK}
use Rattle.kern_layout.specs.Stands.{Side, SameUser, Stands, is_fixed, fixed_ranges}
use Rattle.kern_layout.specs.Numbers.{threads_at}
use Rattle.kern_layout.specs.Valid.{Valid}
use Rattle.abs_run.specs.InKernel.{side_of}
use Rattle.kern_layout.proofs.Written.{reads_free}
use Rattle.abs_run.specs.Entered.{is_heap_number, bound_by}
use Rattle.kern_entry.specs.Made.{Spared, IsBack}

below_all : (rs : List Range) (high a : ℕ) → list_all (λ (r : Range). nat_le r.to high) rs ≡ true → list_any (λ (r : Range). nat_le r.from a && nat_lt a r.to) rs ≡ true → a < high
below_all [] high a all h = absurd (false≢true h)
below_all (r ∷ rs) high a all h =
    let p = and_parts (nat_le r.to high) (list_all (λ (r : Range). nat_le r.to high) rs) all in
    ⊎_elim
    (λ q. let e = leb-true r.to high p.0 in let f = ltb-true a r.to (and_parts (nat_le r.from a) (nat_lt a r.to) q).1 in omega (arith, e, f))
    (λ q. below_all rs high a p.1 q)
    (or_cases (nat_le r.from a && nat_lt a r.to) (list_any (λ (r : Range). nat_le r.from a && nat_lt a r.to) rs) h)

pub fixed_below : (a : ℕ) → is_fixed a ≡ true → a < threads_at
fixed_below a h = below_all fixed_ranges threads_at a refl h

user_above : (a : ℕ) → (user_main a || scratchpad a) ≡ true → STACK.to ≤ a
user_above a h = grind arith

pub spared_word : (m n : Memory) → Spared m n → (a : ℕ) → a % 4 ≡ 0 → a < STACK.from → word n a ≡ word m a
unfolding word
spared_word m n h a even low =
    let e0 = h a (inl low) in let e1 = h (a + 1) (inl (omega arith)) in let e2 = h (a + 2) (inl (omega arith)) in let e3 = h (a + 3) (inl (omega arith)) in
    λ i. e0 i + e1 i * 2 ^ 8 + e2 i * 2 ^ 16 + e3 i * 2 ^ 24

pub spared_user : (m n u : Memory) → SameUser m u → Spared m n → SameUser n u
spared_user m n u same h a in_user = h a (inr (user_above a in_user)) ∙ same a in_user

module _ (first : Memory) (side : Side) (s : KernelState) (rom : List ℕ) (valid : Valid s) (stands : Stands side first s rom) where
  -- a state with another running context, where memory is spared
  back_in : (next : Core) (t : ThreadContext) → IsBack first (record s { running = t }) next → Stands (side_of next) next.bytes (record s { running = t }) rom
  back_in next t h =
      let few = valid.frames_most in
      let r = reads_free s valid (word first) (word next.bytes) (byte first) (byte next.bytes)
      (λ a low high. h.spared a (inl (omega arith)))
      (λ a even low high. spared_word first next.bytes h.spared a even (omega (arith, high, few)))
      (λ a even low high. spared_word first next.bytes h.spared a even (omega arith))
      (λ a even low high. spared_word first next.bytes h.spared a even (omega arith))
      stands.reads in
      record {
        context = h.context;
        sr = h.sr;
        latch = h.latch;
        reads = record { threads = r.threads; events = r.events; frames = r.frames; chains = r.chains; heap = r.heap; files = r.files; line = r.line; variables = r.variables };
        user = spared_user first next.bytes s.memory stands.user h.spared;
        code = λ a f. (let low = fixed_below a f in h.spared a (inl (omega arith))) ∙ stands.code a f;
      }

  pub back : (state : KernelState) (next : Core) → state ≡ record s { running = state.running } → IsBack first state next → Stands (side_of next) next.bytes state rom
  back state next e h = subst (λ x. Stands (side_of next) next.bytes x rom) (sym e) (back_in next state.running (record { context = h.context; sr = h.sr; latch = h.latch; spared = h.spared }))

-- each bound is 20,480 at least
pub bound_by_least : (e : Entrance) (number : ℕ) → 20480 ≤ bound_by e number
bound_by_least ByA number = go (is_heap_number number)
  where
    go : (b : Bool) → 20480 ≤ (if b then 36864 else 20480)
    go true = omega arith
    go false = omega arith
bound_by_least ByB number = omega arith
bound_by_least ByC number = omega arith
bound_by_least BySyscall number = omega arith
bound_by_least ByInterrupt number = omega arith
bound_by_least ByDone number = omega arith
bound_by_least ByBack number = omega arith
bound_by_least ByTrap number = omega arith
