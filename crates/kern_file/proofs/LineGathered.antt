-- The laws of the calls that wait, and of the lines of gets.
use Rattle.std.proofs.Common.{◌≡◌, ℕ, zero, suc, ◌+◌, ◌-◌, ◌%◌, ◌^◌, ◌≤◌, Bool, true, false, List, [], ◌∷◌, ◌++◌, length, inl, inr, ⊎_elim, refl, sym, ap, ◌∙◌, subst, arith}
use Rattle.std.specs.Prelude.{◌⊎◌, nat_eq, if◌then◌else◌}
use Rattle.std.proofs.lemmas.Bool.{or_cases, eqb-true}
use Rattle.std.proofs.lemmas.List.{length_push, append_assoc}
use Rattle.psx_base.specs.Addresses.{user}
use Rattle.psx_base.specs.Ports.{CONSOLE_DATA}
use Rattle.psx_base.specs.KernelState.{KernelState}
use Rattle.abs_kernel.specs.Stay.{Stay, Ask}
use Rattle.abs_kernel.specs.Answered.{registers_of, answered, waits}
use Rattle.abs_kernel.specs.UserBytes.{following, with_byte, bad_pointer}
use Rattle.abs_kernel.specs.Gets.{with_line, store_bytes, gives_line, ends_line, gather_line, gets}
use Rattle.abs_kernel.specs.Played.{Access, End, Returned, Halted, Short, played, after}
use Rattle.kern_stay.proofs.Cursor.{not_null}
use Rattle.kern_file.specs.LineLaws.{taken_bytes, with_bytes, IsEnd, Gives, Keeps, Outcome, LinesAreGathered, taken_by, all_taken, last_line, NoneIsLost}

-- a stay that returns doesn't halt, and had an answer
abbrev IsReturn : End → Type 0
IsReturn (Returned t) = Unit {0}
IsReturn (Halted stop m) = ⊥
IsReturn Short = ⊥

is_return : (e : End) (t : KernelState) → e ≡ Returned t → IsReturn e
is_return e t h = subst IsReturn (sym h) tt

abbrev state_of : End → KernelState → KernelState
state_of (Returned t) s = t
state_of (Halted stop m) s = s
state_of Short s = s

same_state : (s t u : KernelState) → Returned s ≡ Returned t → t ≡ s
same_state s t u h = sym (ap (λ e. state_of e u) h)

-- bytes are written: no port is accessed, the memory alone is changed, and p is answered
record Stored (s t : KernelState) (bytes : List ℕ) (at p : ℕ) (accesses : List Access) : Type 0 where
  answer : (registers_of t).r2 ≡ p
  none : accesses ≡ []
  line : t.line ≡ s.line
  memory : t.memory ≡ with_bytes bytes s.memory at

stores : (bytes : List ℕ) (s t : KernelState) (at p : ℕ) (answers : List ℕ) → (played (store_bytes bytes s at (λ u. answered u p)) answers).end ≡ Returned t
    → Stored s t bytes at p (played (store_bytes bytes s at (λ u. answered u p)) answers).accesses
stores [] s t at p answers h = let e = same_state _ t s h in record { answer = ap (λ x. (registers_of x).r2) e; none = refl; line = ap (λ x. x.line) e; memory = ap (λ x. x.memory) e }
stores (b ∷ bytes) s t at p answers h = by (user at) (λ g. stores bytes (with_byte s at (b % 2 ^ 8)) t (following at) p answers g) h
  where
    by : (u : Bool)
        → ((played (store_bytes bytes (with_byte s at (b % 2 ^ 8)) (following at) (λ u. answered u p)) answers).end ≡ Returned t → Stored (with_byte s at (b % 2 ^ 8)) t bytes
        (following at) p (played (store_bytes bytes (with_byte s at (b % 2 ^ 8)) (following at) (λ u. answered u p)) answers).accesses)
        → (played (if u then store_bytes bytes (with_byte s at (b % 2 ^ 8)) (following at) (λ u. answered u p) else bad_pointer s at) answers).end ≡ Returned t
        → Stored s t (b ∷ bytes) at p (played (if u then store_bytes bytes (with_byte s at (b % 2 ^ 8)) (following at) (λ u. answered u p) else bad_pointer s at) answers).accesses
    by true more g = let r = more g in record { answer = r.answer; none = r.none; line = r.line; memory = r.memory }
    by false more g = absurd (is_return _ t g)

-- a line is given
gives : (s t : KernelState) (old line end : List ℕ) (answers : List ℕ) → IsEnd line end → (played (gives_line (with_line s old) line) answers).end ≡ Returned t
    → (taken_bytes (played (gives_line (with_line s old) line) answers).accesses ≡ []) × Gives s t line end
gives s t old line end answers e h =
    let r = stores (line ++ 0 ∷ []) (with_line s []) t (registers_of s).r4 (registers_of s).r4 answers h in
    (ap taken_bytes r.none, record { ends = e; memory = r.memory; answer = r.answer; empty = r.line })

end_is : (b : ℕ) → ends_line b ≡ true → (b ≡ 0x0A) ⊎ (b ≡ 0x0D)
end_is b h = ⊎_elim (λ e. inl (eqb-true b 0x0A e)) (λ e. inr (eqb-true b 0x0D e)) (or_cases (nat_eq b 0x0A) (nat_eq b 0x0D) h)

one_end : (line : List ℕ) (b : ℕ) → ends_line b ≡ true → IsEnd line (b ∷ [])
one_end line b h = inr (⊎_elim (λ (e : b ≡ 0x0A). inl (ap (λ x. x ∷ []) e)) (λ (e : b ≡ 0x0D). inr (ap (λ x. x ∷ []) e)) (end_is b h))

append_none : (xs : List ℕ) → xs ++ [] ≡ xs
append_none [] = refl
append_none (x ∷ xs) = ap (λ ys. x ∷ ys) (append_none xs)

module _ (s : KernelState) where
  abbrev stay : (n : ℕ) (line : List ℕ) → Stay
  stay n line = gather_line n (with_line s line)

  abbrev took : Stay → (answers : List ℕ) → List ℕ
  took x answers = taken_bytes (played x answers).accesses

  -- behind a byte, and behind the status
  abbrev next : (n : ℕ) (line : List ℕ) (b : ℕ) → Stay
  next n line b = if ends_line b then gives_line (with_line s line) line else stay n (line ++ b ∷ [])

  abbrev asks : (n : ℕ) (line : List ℕ) → Bool → Stay
  asks n line none = if none then waits (with_line s line) else Ask CONSOLE_DATA (λ value. next n line (value % 2 ^ 8))

  gathers : (n : ℕ) (line : List ℕ) (t : KernelState) (answers : List ℕ) → length line + n ≡ 255 → (played (stay n line) answers).end ≡ Returned t → Outcome s t (line ++ took (stay n line) answers)
  gathers zero line t answers fits h =
      let r = gives s t line line [] answers (inl (omega (arith, fits), refl)) h in
      inr (line, ([], r.1, ap (λ x. line ++ x) r.0))
  gathers (suc n) line t [] fits h = absurd (is_return _ t h)
  gathers (suc n) line t (status ∷ answers) fits h =
      let more = gathers n in
      due (nat_eq status 0) (λ b rest g. (let one = length_push line b in more (line ++ b ∷ []) t rest (omega (arith, fits, one)) g)) answers h
    where
      came : (b : ℕ) (rest : List ℕ) (end : Bool) → ends_line b ≡ end → ((played (stay n (line ++ b ∷ [])) rest).end ≡ Returned t
          → Outcome s t ((line ++ b ∷ []) ++ took (stay n (line ++ b ∷ [])) rest))
          → (played (if end then gives_line (with_line s line) line else stay n (line ++ b ∷ [])) rest).end ≡ Returned t
          → Outcome s t (line ++ b ∷ took (if end then gives_line (with_line s line) line else stay n (line ++ b ∷ [])) rest)
      came b rest true e more g = let r = gives s t line line (b ∷ []) rest (one_end line b e) g in inr (line, (b ∷ [], r.1, ap (λ x. line ++ b ∷ x) r.0))
      came b rest false e more g = subst (Outcome s t) (append_assoc line (b ∷ []) (took (stay n (line ++ b ∷ [])) rest)) (more g)

      due : (none : Bool) → ((b : ℕ) (rest : List ℕ) → (played (stay n (line ++ b ∷ [])) rest).end ≡ Returned t → Outcome s t ((line ++ b ∷ []) ++ took (stay n (line ++ b ∷ [])) rest))
          → (left : List ℕ) → (played (asks n line none) left).end ≡ Returned t → Outcome s t (line ++ took (asks n line none) left)
      due true more left g = let e = same_state _ t s g in inl (record {
        line = ap (λ x. x.line) e ∙ sym (append_none line);
        memory = ap (λ x. x.memory) e;
        short =
            (let l = ap (λ x. length x.line) e in omega (arith, fits, l));
      })
      due false more [] g = absurd (is_return _ t g)
      due false more (value ∷ rest) g = came (value % 2 ^ 8) rest (ends_line (value % 2 ^ 8)) refl (more (value % 2 ^ 8) rest) g

pub lines_are_gathered : LinesAreGathered
lines_are_gathered s t answers some short h =
    let is : gets s ≡ gather_line (255 - length s.line) s = not_null (registers_of s).r4 (answered s 0) (gather_line (255 - length s.line) s) some in
    subst (λ x. Outcome s t (s.line ++ taken_bytes (played x answers).accesses)) (sym is)
    (gathers s (255 - length s.line) s.line t answers (omega arith) (sym (ap (λ x. (played x answers).end) is) ∙ h))

-- ---- many of them

joined : (line took rest given last : List ℕ) (bytes after : List ℕ) → line ++ took ≡ bytes ++ after → after ++ rest ≡ given ++ last → line ++ (took ++ rest) ≡ (bytes ++ given) ++ last
joined line took rest given last bytes after e f =
    sym (append_assoc line took rest) ∙ ap (λ x. x ++ rest) e ∙ append_assoc bytes after rest ∙ ap (λ x. bytes ++ x) f ∙ sym (append_assoc bytes given last)

pub none_is_lost : NoneIsLost
none_is_lost [] line short h = ([], refl, append_none line)
none_is_lost (x ∷ xs) line short h =
    let begun : length x.state.line ≤ 254 = (let e = ap length h.0 in omega (arith, e, short)) in
    let took = taken_by x.state x.answers in
    ⊎_elim
    (λ (k : Keeps x.state x.after (x.state.line ++ took)).
    let r = none_is_lost xs x.after.line k.short h.3 in
    let e : line ++ took ≡ [] ++ x.after.line = ap (λ y. y ++ took) (sym h.0) ∙ sym k.line in
    (r.0, inl (k, r.1), joined line took (all_taken xs) r.0 (last_line x.after.line xs) [] x.after.line e r.2))
    (λ (g : (l : List ℕ) × ((end : List ℕ) × Gives x.state x.after l end × (x.state.line ++ took ≡ l ++ end))).
    let empty : length x.after.line ≤ 254 = (let e = ap length g.1.1.empty in omega (arith, e)) in
    let r = none_is_lost xs x.after.line empty h.3 in
    let bytes : List ℕ = g.0 ++ g.1.0 in
    let e : line ++ took ≡ bytes ++ x.after.line = ap (λ y. y ++ took) (sym h.0) ∙ g.1.2 ∙ sym (append_none bytes) ∙ ap (λ y. bytes ++ y) (sym g.1.1.empty) in
    (bytes ++ r.0, inr (g.0, (g.1.0, (r.0, g.1.1, refl, r.1))), joined line took (all_taken xs) r.0 (last_line x.after.line xs) bytes x.after.line e r.2))
    (lines_are_gathered x.state x.after x.answers h.1 begun h.2)
