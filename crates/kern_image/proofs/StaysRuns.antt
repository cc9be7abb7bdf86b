-- The words make a stay with a step more where they make it behind the next step.
use Rattle.std.proofs.Common.{◌≡◌, ℕ, zero, suc, ◌+◌, ◌-◌, ◌*◌, ◌≤◌, ◌%◌, ◌^◌, ◌<◌, List, Bool, true, false, cond, Some, refl, sym, ap, ◌∙◌, subst, arith, inl, inr, ◌⊎◌, ⊎_elim}
use Rattle.std.specs.Prelude.{nat_eq, ◌||◌, if◌then◌else◌}
use Rattle.std.proofs.Math.Nat.{mul-add}
use Rattle.std.proofs.lemmas.Bool.{true≢false, eqb-true, or_cases}
use Rattle.psx_base.specs.declared.ports.TheConstants.{CONSOLE_DATA, HALT, HALT_A, HALT_B, HALT_C}
use Rattle.psx_base.specs.declared.stop.Stop.{Stop}
use Rattle.psx_base.specs.Memory.{Memory}
use Rattle.psx_cpu.specs.Processor.{Core, Bus}
use Rattle.psx_cpu.specs.Step.{Move, Goes, Reads, Writes, Enters, Leaves, Stops, step}
use Rattle.psx_ports.specs.HaltCodes.{halt_stop}
use Rattle.kern_layout.specs.Stands.{SameUser, Stands}
use Rattle.abs_kernel.specs.Stay.{Stay, Return, Halt, Ask, Tell, Write, Touch}
use Rattle.kern_stay.specs.Loops.{units}
use Rattle.kern_entry.specs.Made.{read_of, written_of, is_own_port, is_halt_word, IsRead, IsWritten}
use Rattle.abs_run.specs.InKernel.{InKernel, side_of, Sign, Nothing, PortRead, PortWritten, Printed, LeftKernel, EndedRun, Strayed, halt_sign, write_sign, sign_of}
use Rattle.abs_run.specs.Serves.{Onward, Comes, AsksFor, WritesTo, Prints, Returns, HaltsWith, Runs}

-- ---- with more steps left

-- what is asked of the last step, with m more steps behind it
abbrev More : ℕ → (Sign → ℕ → Type 0) → (Sign → ℕ → Type 0) → Type 0
More m last last' = (sign : Sign) (left : ℕ) → last sign left → last' sign (left + m)

module _ (m : ℕ) (last last' : Sign → ℕ → Type 0) (more : More m last last') where
  onward_more : (n : ℕ) (sign : Sign) → ((k : InKernel) → Comes last n k → Comes last' (n + m) k) → Onward (Comes last n) (λ (x : Sign). last x n) sign → Onward (Comes last' (n + m)) (λ (x : Sign). last' x (n + m)) sign
  onward_more n (Nothing next) f h = f next h
  onward_more n (PortRead next at value) f h = more (PortRead next at value) n h
  onward_more n (PortWritten next at value) f h = more (PortWritten next at value) n h
  onward_more n (Printed next byte) f h = more (Printed next byte) n h
  onward_more n (LeftKernel next) f h = more (LeftKernel next) n h
  onward_more n (EndedRun next stop) f h = more (EndedRun next stop) n h
  onward_more n Strayed f h = more Strayed n h

  comes_more : (n : ℕ) (k : InKernel) → Comes last n k → Comes last' (n + m) k
  comes_more zero k h = absurd h
  comes_more (suc n) k h =
      let e : suc n + m ≡ suc (n + m) = omega arith in
      subst (λ j. Comes last' j k) (sym e) (λ bus lt. onward_more n (sign_of k (step k.core bus)) (λ next c. comes_more n next c) (h bus lt))

module _ (rom : List ℕ) (m : ℕ) where
  returns_more : (state : _) → More m (Returns rom state) (Returns rom state)
  returns_more state (LeftKernel next) left h = h
  returns_more state _ left h = absurd h

  ends_more : (stop : Stop) (memory : Memory) → More m (HaltsWith stop memory) (HaltsWith stop memory)
  ends_more stop memory (EndedRun next told) left h = h
  ends_more stop memory _ left h = absurd h

  asks_more : (port : ℕ) (on : ℕ → ℕ → InKernel → Type 0) → ((value left : ℕ) (k : InKernel) → on value left k → on value (left + m) k) → More m (AsksFor port on) (AsksFor port on)
  asks_more port on f (PortRead next at value) left h = (h.0, f value left next h.1)
  asks_more port on f _ left h = absurd h

  tells_more : (port value : ℕ) (on : ℕ → InKernel → Type 0) → ((left : ℕ) (k : InKernel) → on left k → on (left + m) k) → More m (WritesTo port value on) (WritesTo port value on)
  tells_more port value on f (PortWritten next at written) left h = (h.0, h.1, f left next h.2)
  tells_more port value on f _ left h = absurd h

  prints_more : (byte : ℕ) (on : ℕ → InKernel → Type 0) → ((left : ℕ) (k : InKernel) → on left k → on (left + m) k) → More m (Prints byte on) (Prints byte on)
  prints_more byte on f (Printed next written) left h = (h.0, f left next h.1)
  prints_more byte on f _ left h = absurd h

  behind_more : (stay : Stay) → ((n : ℕ) (k : InKernel) → Runs rom stay n k → Runs rom stay (n + m) k) → (left : ℕ) (k : InKernel) → Runs rom stay (left + 128) k → Runs rom stay (left + m + 128) k
  behind_more stay f left k h = let e : left + 128 + m ≡ left + m + 128 = omega arith in subst (λ j. Runs rom stay j k) e (f (left + 128) k h)

  pub runs_more : (stay : Stay) (n : ℕ) (k : InKernel) → Runs rom stay n k → Runs rom stay (n + m) k
  runs_more (Return state) n k h = comes_more m (Returns rom state) (Returns rom state) (returns_more state) n k h
  runs_more (Halt stop memory) n k h = comes_more m (HaltsWith stop memory) (HaltsWith stop memory) (ends_more stop memory) n k h
  runs_more (Ask port next) n k h = let last = AsksFor port (λ value left. Runs rom (next value) (left + 128)) in comes_more m last last (asks_more port (λ value left. Runs rom (next value) (left + 128)) (λ value left j. behind_more (next value) (λ i q. runs_more (next value) i q) left j)) n k h
  runs_more (Tell port value next) n k h = let last = WritesTo port value (λ left. Runs rom next (left + 128)) in comes_more m last last (tells_more port value (λ left. Runs rom next (left + 128)) (λ left j. behind_more next (λ i q. runs_more next i q) left j)) n k h
  runs_more (Write byte next) n k h = let last = Prints byte (λ left. Runs rom next (left + 128)) in comes_more m last last (prints_more byte (λ left. Runs rom next (left + 128)) (λ left j. behind_more next (λ i q. runs_more next i q) left j)) n k h
  runs_more (Touch bytes next) n k h =
      let e : n + 128 * bytes + m ≡ n + m + 128 * bytes = omega arith in
      subst (λ j. Runs rom next j k) e (runs_more next (n + 128 * bytes) k h)

pub runs_least : (rom : List ℕ) (stay : Stay) (n m : ℕ) (k : InKernel) → n ≤ m → Runs rom stay n k → Runs rom stay m k
runs_least rom stay n m k le h = let e : n + (m - n) ≡ m = omega arith in subst (λ j. Runs rom stay j k) e (runs_more rom (m - n) stay n k h)

-- ---- a step

-- the words of the halt ports behind a write
abbrev pub put : (at value : ℕ) → InKernel → InKernel
put at value k = record { core = k.core; a = if nat_eq at HALT_A then value else k.a; b = if nat_eq at HALT_B then value else k.b; c = if nat_eq at HALT_C then value else k.c }

-- a write to the halt port stops the run as the stay does
abbrev pub HaltsAs : Stay → (value a b c : ℕ) → Core → Type 0
HaltsAs (Halt stop memory) value a b c next = (halt_stop value a b c ≡ Some stop) × SameUser next.bytes memory
HaltsAs (Touch bytes stay) value a b c next = HaltsAs stay value a b c next
HaltsAs _ value a b c next = ⊥

-- a return is the stay's
abbrev pub GoesHome : List ℕ → Stay → Core → Type 0
GoesHome rom (Return state) next = Stands (side_of next) next.bytes state rom
GoesHome rom (Touch bytes stay) next = GoesHome rom stay next
GoesHome rom _ next = ⊥

-- the steps that are left behind the next access to a port
abbrev pub paid : Stay → ℕ → ℕ
paid (Return state) n = n
paid (Halt stop memory) n = n
paid (Ask port next) n = n + 128
paid (Tell port value next) n = n + 128
paid (Write byte next) n = n + 128
paid (Touch bytes next) n = paid next (n + 128 * bytes)

pub paid_is : (stay : Stay) (n : ℕ) → paid stay n ≡ n + 128 * units stay
paid_is (Return state) n = omega arith
paid_is (Halt stop memory) n = omega arith
paid_is (Ask port next) n = refl
paid_is (Tell port value next) n = refl
paid_is (Write byte next) n = refl
paid_is (Touch bytes next) n = let e = paid_is next (n + 128 * bytes) in let d : 128 * (bytes + units next) ≡ 128 * bytes + 128 * units next = mul-add 128 bytes (units next) in omega (arith, e, d)

pub paid_least : (stay : Stay) (n : ℕ) → n ≤ paid stay n
paid_least stay n = let e = paid_is stay n in omega (arith, e)

-- what is asked of a step, so that the stay is made with a step more
abbrev pub OnMove : List ℕ → Stay → ℕ → InKernel → Move → Type 0
OnMove rom stay n k (Goes next) = Runs rom stay n (record k { core = next })
OnMove rom stay n k (Reads next at value) = IsRead at stay × Runs rom (read_of value stay) (paid stay n) (record k { core = next })
OnMove rom stay n k (Writes next at value) = cond (nat_eq at HALT) (HaltsAs stay value k.a k.b k.c next) (IsWritten at value stay × Runs rom (written_of stay) (paid stay n) (put at value (record k { core = next })))
OnMove rom stay n k (Leaves next) = GoesHome rom stay next
OnMove rom stay n k _ = ⊥

split : {A B C : Type 0} (v : Bool) → (v ≡ true → A → C) → (v ≡ false → B → C) → cond v A B → C
split true f g h = f refl h
split false f g h = g refl h

halt_word : (at : ℕ) → is_halt_word at ≡ true → (at ≡ HALT_A) ⊎ ((at ≡ HALT_B) ⊎ (at ≡ HALT_C))
halt_word at h =
    ⊎_elim (λ e. inl (eqb-true at HALT_A e)) (λ r. inr (⊎_elim (λ e. inl (eqb-true at HALT_B e)) (λ e. inr (eqb-true at HALT_C e)) (or_cases (nat_eq at HALT_B) (nat_eq at HALT_C) r)))
    (or_cases (nat_eq at HALT_A) (nat_eq at HALT_B || nat_eq at HALT_C) h)

-- another port than the stay's own
other : (at c : ℕ) → is_own_port at ≡ false → is_own_port c ≡ true → nat_eq at c ≡ false
other at c h g = go (nat_eq at c) refl
  where
    go : (v : Bool) → nat_eq at c ≡ v → v ≡ false
    go true e = absurd (true≢false (sym g ∙ (ap is_own_port (sym (eqb-true at c e)) ∙ h)))
    go false e = refl

abbrev chosen_sign : (d h a b c o : Bool) → InKernel → (at value : ℕ) → Sign
chosen_sign d h a b c o k at value =
    if d then Printed k (value % 2 ^ 8)
    else (if h then halt_sign k (halt_stop value k.a k.b k.c)
    else (if a then Nothing (record k { a = value })
    else (if b then Nothing (record k { b = value })
    else (if c then Nothing (record k { c = value })
    else (if o then Strayed else PortWritten k at value)))))

told_sign : (k : InKernel) (at value : ℕ) → is_own_port at ≡ false → write_sign k at value ≡ PortWritten k at value
told_sign k at value h =
    let d = other at CONSOLE_DATA h refl in let e = other at HALT h refl in let a = other at HALT_A h refl in let b = other at HALT_B h refl in let c = other at HALT_C h refl in
    λ i. chosen_sign (d i) (e i) (a i) (b i) (c i) (h i) k at value

put_other : (k : InKernel) (at value : ℕ) → is_own_port at ≡ false → put at value k ≡ k
put_other k at value h =
    let a = other at HALT_A h refl in let b = other at HALT_B h refl in let c = other at HALT_C h refl in
    λ i. record { core = k.core; a = if a i then value else k.a; b = if b i then value else k.b; c = if c i then value else k.c }

module _ (rom : List ℕ) where
  -- ends
  return_step : (state : _) (n : ℕ) (k : InKernel) (move : Move) → OnMove rom (Return state) n k move → Onward (Comes (Returns rom state) n) (λ (x : Sign). Returns rom state x n) (sign_of k move)
  return_step state n k (Goes next) h = h
  return_step state n k (Reads next at value) h = absurd h.0
  return_step state n k (Writes next at value) h = absurd (split (nat_eq at HALT) (λ e x. x) (λ e x. x.0) h)
  return_step state n k (Enters next code) h = absurd h
  return_step state n k (Leaves next) h = h
  return_step state n k (Stops stop) h = absurd h

  halt_step : (stop : Stop) (memory : Memory) (n : ℕ) (k : InKernel) (move : Move) → OnMove rom (Halt stop memory) n k move → Onward (Comes (HaltsWith stop memory) n) (λ (x : Sign). HaltsWith stop memory x n) (sign_of k move)
  halt_step stop memory n k (Goes next) h = h
  halt_step stop memory n k (Reads next at value) h = absurd h.0
  halt_step stop memory n k (Writes next at value) h =
      let G : Sign → Type 0 = λ sign. Onward (Comes (HaltsWith stop memory) n) (λ (x : Sign). HaltsWith stop memory x n) sign in
      let j : InKernel = record k { core = next } in
      split (nat_eq at HALT)
      (λ e x. subst (λ p. G (write_sign j p value)) (sym (eqb-true at HALT e)) (subst (λ o. G (halt_sign j o)) (sym x.0) (refl, x.1)))
      (λ e x. word (λ p. Comes (HaltsWith stop memory) n (put p value j)) (λ p. G (write_sign j p value)) (λ y. y) (λ y. y) (λ y. y) x.0 x.1)
      h
    where
      word : (A B : ℕ → Type 0) → (A HALT_A → B HALT_A) → (A HALT_B → B HALT_B) → (A HALT_C → B HALT_C) → is_halt_word at ≡ true → A at → B at
      word A B f g h w x =
          let at_word : (p : ℕ) → (A p → B p) → at ≡ p → B at = λ p f e. subst B (sym e) (f (subst A e x)) in
          ⊎_elim (at_word HALT_A f) (⊎_elim (at_word HALT_B g) (at_word HALT_C h)) (halt_word at w)
  halt_step stop memory n k (Enters next code) h = absurd h
  halt_step stop memory n k (Leaves next) h = absurd h
  halt_step stop memory n k (Stops stop') h = absurd h

  -- accesses
  ask_step : (port : ℕ) (on : ℕ → Stay) (n : ℕ) (k : InKernel) (move : Move) → OnMove rom (Ask port on) n k move
      → Onward (Comes (AsksFor port (λ value left. Runs rom (on value) (left + 128))) n) (λ (x : Sign). AsksFor port (λ value left. Runs rom (on value) (left + 128)) x n) (sign_of k move)
  ask_step port on n k (Goes next) h = h
  ask_step port on n k (Reads next at value) h = h
  ask_step port on n k (Writes next at value) h = absurd (split (nat_eq at HALT) (λ e x. x) (λ e x. x.0) h)
  ask_step port on n k (Enters next code) h = absurd h
  ask_step port on n k (Leaves next) h = absurd h
  ask_step port on n k (Stops stop) h = absurd h

  tell_step : (port told : ℕ) (stay : Stay) (n : ℕ) (k : InKernel) (move : Move) → OnMove rom (Tell port told stay) n k move
      → Onward (Comes (WritesTo port told (λ left. Runs rom stay (left + 128))) n) (λ (x : Sign). WritesTo port told (λ left. Runs rom stay (left + 128)) x n) (sign_of k move)
  tell_step port told stay n k (Goes next) h = h
  tell_step port told stay n k (Reads next at value) h = absurd h.0
  tell_step port told stay n k (Writes next at value) h =
      let G : Sign → Type 0 = λ sign. Onward (Comes (WritesTo port told (λ left. Runs rom stay (left + 128))) n) (λ (x : Sign). WritesTo port told (λ left. Runs rom stay (left + 128)) x n) sign in
      let j : InKernel = record k { core = next } in
      split (nat_eq at HALT) (λ e x. absurd x)
      (λ e x. subst G (sym (told_sign j at value x.0.2)) (x.0.0, x.0.1, subst (Runs rom stay (n + 128)) (put_other j at value x.0.2) x.1)) h
  tell_step port told stay n k (Enters next code) h = absurd h
  tell_step port told stay n k (Leaves next) h = absurd h
  tell_step port told stay n k (Stops stop) h = absurd h

  write_step : (byte : ℕ) (stay : Stay) (n : ℕ) (k : InKernel) (move : Move) → OnMove rom (Write byte stay) n k move
      → Onward (Comes (Prints byte (λ left. Runs rom stay (left + 128))) n) (λ (x : Sign). Prints byte (λ left. Runs rom stay (left + 128)) x n) (sign_of k move)
  write_step byte stay n k (Goes next) h = h
  write_step byte stay n k (Reads next at value) h = absurd h.0
  write_step byte stay n k (Writes next at value) h =
      let G : Sign → Type 0 = λ sign. Onward (Comes (Prints byte (λ left. Runs rom stay (left + 128))) n) (λ (x : Sign). Prints byte (λ left. Runs rom stay (left + 128)) x n) sign in
      let j : InKernel = record k { core = next } in
      split (nat_eq at HALT) (λ e x. absurd x)
      (λ e x.
      let printed : G (write_sign j CONSOLE_DATA value) = (x.0.1, subst (λ p. Runs rom stay (n + 128) (put p value j)) x.0.0 x.1) in
      subst (λ p. G (write_sign j p value)) (sym x.0.0) printed) h
  write_step byte stay n k (Enters next code) h = absurd h
  write_step byte stay n k (Leaves next) h = absurd h
  write_step byte stay n k (Stops stop) h = absurd h

  -- a stay begun with a touch
  touch_move : (bytes : ℕ) (stay : Stay) (n : ℕ) (k : InKernel) (move : Move) → OnMove rom (Touch bytes stay) n k move → OnMove rom stay (n + 128 * bytes) k move
  touch_move bytes stay n k (Goes next) h = h
  touch_move bytes stay n k (Reads next at value) h = h
  touch_move bytes stay n k (Writes next at value) h = h
  touch_move bytes stay n k (Enters next code) h = absurd h
  touch_move bytes stay n k (Leaves next) h = h
  touch_move bytes stay n k (Stops stop) h = absurd h

  pub runs_step : (stay : Stay) (n : ℕ) (k : InKernel) → ((bus : Bus) → bus.value < 2 ^ 32 → OnMove rom stay n k (step k.core bus)) → Runs rom stay (suc n) k
  runs_step (Return state) n k f = λ bus lt. return_step state n k (step k.core bus) (f bus lt)
  runs_step (Halt stop memory) n k f = λ bus lt. halt_step stop memory n k (step k.core bus) (f bus lt)
  runs_step (Ask port on) n k f = λ bus lt. ask_step port on n k (step k.core bus) (f bus lt)
  runs_step (Tell port told stay) n k f = λ bus lt. tell_step port told stay n k (step k.core bus) (f bus lt)
  runs_step (Write byte stay) n k f = λ bus lt. write_step byte stay n k (step k.core bus) (f bus lt)
  runs_step (Touch bytes stay) n k f =
      let e : suc (n + 128 * bytes) ≡ suc n + 128 * bytes = omega arith in
      subst (λ j. Runs rom stay j k) e (runs_step stay (n + 128 * bytes) k (λ bus lt. touch_move bytes stay n k (step k.core bus) (f bus lt)))
