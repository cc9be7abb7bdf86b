-- Each call is served from its routine on, and each entry from the vector on.
use Rattle.std.proofs.Common.{◌≡◌, ℕ, ◌+◌, ◌-◌, ◌%◌, ◌≤◌, inr, List, [], ◌++◌, false, refl, sym, subst, arith}
use Rattle.psx_base.specs.declared.stop.Stop.{Stop}
use Rattle.psx_base.specs.Memory.{Memory}
use Rattle.psx_base.specs.Context.{IsAtRest}
use Rattle.psx_base.specs.Registers.{Registers}
use Rattle.psx_base.specs.KernelState.{KernelState}
use Rattle.psx_cpu.specs.Processor.{Core, Cop0}
use Rattle.psx_flow.specs.Kernel.{kernel_words}
use Rattle.psx_flow.specs.Meets.{calls}
use Rattle.psx_flow.proofs.Rules.{meets_mono, fair}
use Rattle.psx_flow.specs.Run.{Run}
use Rattle.kern_layout.specs.Stands.{Side, SameUser, Stands, HoldsRom, user_sr}
use Rattle.abs_kernel.specs.Answered.{registers_of}
use Rattle.abs_kernel.specs.Stay.{Stay}
use Rattle.abs_run.specs.InKernel.{InKernel}
use Rattle.abs_run.specs.Serves.{Runs}
use Rattle.kern_stay.specs.Shared.{tested_there}
use Rattle.kern_stay.specs.Doors.{Arrives, AtWork, AtWorkBegun, ThroughTo, GoesOnWithin, called_with, begun, IsServed, IsServedWithin, most_steps}
use Rattle.kern_entry.specs.Holding.{HoldsEntry}
use Rattle.kern_entry.specs.EntryLaws.{KeepsRest, OwnCalls, kernel_at}
use Rattle.kern_entry.specs.Made.{Made}
use Rattle.kern_entry.specs.Within.{Aim}
use Rattle.kern_image.proofs.StaysRuns.{runs_more}
use Rattle.kern_image.proofs.StaysMade.{made_shows}
use Rattle.kern_image.proofs.StaysStage.{aimed_shows}
use Rattle.kern_image.proofs.StaysStand.{back, spared_user}
use Rattle.kern_image.proofs.StaysDoors.{at_core, IsValid}
use Rattle.kern_image.proofs.StaysThrough.{Onward, stage}

-- the steps from WORK on: of its listing, of PUSH and behind it
abbrev pub work_limit : ℕ
work_limit = 8265

module _ (rom : List ℕ) (m : Memory) (words : HoldsEntry m) (code : HoldsRom m rom) where
  -- a call is served where its routine is entered, within so many steps
  abbrev pub Serving : (limit : ℕ) → (KernelState → Stay) → ℕ → Type 0
  Serving limit stay at =
      (a b c : ℕ) (t : KernelState) (regs : Registers) (z : Cop0) → IsValid (stay t) → Arrives t m → z.sr % 2 ≡ 0
      → Runs rom (stay t) limit (at_core rom a b c (kernel_at (called_with (registers_of t) regs) z m at))

  pub serving_more : (few limit : ℕ) (stay : KernelState → Stay) (at : ℕ) → few ≤ limit → Serving few stay at → Serving limit stay at
  serving_more few limit stay at less s a b c t regs z valid h off =
      let k : InKernel = at_core rom a b c (kernel_at (called_with (registers_of t) regs) z m at) in
      let more : few + (limit - few) ≡ limit = omega (arith, less) in
      subst (λ n. Runs rom (stay t) n k) more (runs_more rom (limit - few) (stay t) few k (s a b c t regs z valid h off))

  -- one listing, which may go on to the tasks
  pub by_listing : (most limit : ℕ) → Onward rom m words code AtWork work_limit → (stay : KernelState → Stay) (at : ℕ) → 73 + most ≤ limit → most_steps + work_limit ≤ limit → IsServed m most stay at → Serving limit stay at
  by_listing most limit onward stay at least room s a b c t regs z valid h off =
      let whole : limit - most + most ≡ limit = omega (arith, least) in
      subst (λ n. Runs rom (stay t) n (at_core rom a b c (kernel_at (called_with (registers_of t) regs) z m at))) whole
      (stage rom m words code AtWork work_limit onward most most_steps (λ n few less. less) a b c (stay t) valid s.listing at s.placed (called_with (registers_of t) regs) z off s.own s.own_placed (limit - most) (omega (arith, least)) (omega (arith, least, room)) (s.serves t regs z m h))

  -- one that goes on to the tasks alone, for a program at rest
  pub by_within : (most limit : ℕ) → Onward rom m words code AtWork work_limit → (stay : KernelState → Stay) (at : ℕ) → 73 + most ≤ limit → most_steps + work_limit ≤ limit → IsServedWithin m most AtWorkBegun stay at
      → (a b c : ℕ) (t : KernelState) (regs : Registers) (z : Cop0) → IsValid (stay t) → Arrives t m → IsAtRest t.running.context → z.sr % 2 ≡ 0 → Runs rom (stay t) limit (at_core rom a b c (kernel_at (called_with (registers_of t) regs) z m at))
  by_within most limit onward stay at least room s a b c t regs z valid h rests off =
      let whole : limit - most + most ≡ limit = omega (arith, least) in
      let begun_onward : Onward rom m words code AtWorkBegun work_limit = λ A B C x v to e ke g. onward A B C x v to e ke (g.0, g.1.works) in
      let own = s.own ++ tested_there in
      let first : Run = begun (called_with (registers_of t) regs) z m in
      let through = meets_mono kernel_words (calls kernel_words own) (fair kernel_words own) s.listing at (λ _. ⊥) (λ _. ⊥) (λ to e. GoesOnWithin AtWorkBegun (stay t) most to e) (λ to e. ThroughTo AtWorkBegun (stay t) most to e) first (λ e x. x)
      (λ to e g. record { told = g.told; ports = g.ports; follows = g.follows; ends = inr g.goes }) (s.serves t regs z m h rests) in
      subst (λ n. Runs rom (stay t) n (at_core rom a b c (kernel_at (called_with (registers_of t) regs) z m at))) whole
      (stage rom m words code AtWorkBegun work_limit begun_onward most most_steps (λ n few less. less) a b c (stay t) valid s.listing at s.placed (called_with (registers_of t) regs) z off s.own s.own_placed (limit - most) (omega (arith, least)) (omega (arith, least, room)) through)

  pub by_own : (stay : KernelState → Stay) (at : ℕ) → OwnCalls at stay → Serving 203 stay at
  by_own stay at own a b c t regs z valid h off =
      let k : Core = kernel_at (called_with (registers_of t) regs) z m at in
      let side : Side = record { context = t.running.context; sr = user_sr t.running.interrupts; latch = false } in
      let stands : Stands side m t rom = record { context = refl; sr = refl; latch = refl; reads = h.holds.reads; user = h.holds.user; code = code } in
      let A : Aim = λ j q. KeepsRest t (stay t) × Made m (stay t) j q in
      let W : Stop → Memory → Type 0 = λ stop memory. memory ≡ t.memory in
      let shown = aimed_shows rom (stay t) a b c A 1 (λ j q y.
      made_shows rom (stay t) a b c m (λ x. x ≡ record t { running = x.running }) W y.0 (λ state next e i. back m side t rom h.valid stands state next e i)
      (λ stop memory j e i. spared_user m j.bytes memory (subst (SameUser m) (sym e) h.holds.user) i) 0 j q y.1) 202 k [] (own t regs z m off (record { words = words; area = h.holds.area; settled = h.holds.settled })) in
      shown.1
