-- The calls: from the number to the routine that the table has for it.
use Rattle.psx_flow.proofs.Kit.{◌≡◌, ℕ, ◌+◌, ◌*◌, ◌%◌, ◌^◌, ◌<◌, ◌≤◌, false, refl, sym, ap, ◌∙◌, arith, ⊎_elim, [], Memory, Registers, Cop0, Run, Access, Meets, calls, kernel_words, fair, start, word_sort}
use Rattle.std.proofs.Common.{Bool, true, List, ◌∷◌, Option, Some, None}
use Rattle.std.specs.Prelude.{nat_eq, nat_lt, ◌&&◌, if◌then◌else◌, cond, find, option_map}
use Rattle.std.proofs.lemmas.Bool.{cases_lt, lt-ltb, ltb-true, and_parts, ne_eqb}
use Rattle.psx_base.specs.declared.stop.Table.{Table}
use Rattle.psx_base.specs.declared.stop.Table.TheVariants.{A, B, C}
use Rattle.psx_flow.specs.Told.{ports}
use Rattle.psx_flow.proofs.Log.{Code}
use Rattle.abs_kernel.specs.declared.calls.CallId.{CallId}
use Rattle.abs_kernel.specs.declared.calls.TheConstants.{ROWS}
use Rattle.abs_kernel.specs.CallTable.{Row, same_table, served_call}
use Rattle.kern_entry.specs.declared.places.TheConstants.{CALL_A, CALL_B, CALL_C, UNSERVED}
use Rattle.kern_entry.specs.declared.calls.TheConstants.{CALL_A_NODES, CALL_B_NODES, CALL_C_NODES}
use Rattle.kern_entry.specs.EntryWords.{tree}
use Rattle.kern_entry.specs.Tables.{table_word, destination, AllThere, TableAt}
use Rattle.kern_stay.proofs.Standing.{code_place}
use Rattle.kern_entry.proofs.WorkArea.{AreaEntered, entered_on}

-- no entry, and an entry
pub none_there : (at : CallId → ℕ) → AllThere at → (o : Option CallId) (v : ℕ) → v ≡ table_word at o → v ≡ 0 → UNSERVED ≡ destination at o
none_there at there None v e z = refl
none_there at there (Some id) v e z = absurd (there id (sym e ∙ z))

pub some_there : (at : CallId → ℕ) (o : Option CallId) (v : ℕ) → v ≡ table_word at o → (v ≡ 0 → ⊥) → v ≡ destination at o
some_there at None v e ne = absurd (ne e)
some_there at (Some id) v e ne = e

-- no call has a number behind its table
abbrev number_in : Table → Row → ℕ
number_in table row = if same_table row.0 table then row.1 else 0

abbrev below : Table → ℕ → List Row → Bool
below table count [] = true
below table count (row ∷ rows) = nat_lt (number_in table row) count && below table count rows

passed_over : (b : Bool) (m count n : ℕ) → nat_lt (if b then m else 0) count ≡ true → count ≤ n → (b && nat_eq m n) ≡ false
passed_over true m count n h le = let lt = ltb-true _ _ h in ne_eqb m n (λ q. omega (arith, q, lt, le))
passed_over false m count n h le = refl

none_behind : (table : Table) (rows : List Row) (count n : ℕ) → below table count rows ≡ true → count ≤ n → find (λ (row : Row). same_table row.0 table && nat_eq row.1 n) rows ≡ None
none_behind table [] count n h le = refl
none_behind table (r ∷ rs) count n h le =
    let e = and_parts (nat_lt (number_in table r) count) (below table count rs) h in
    ap (λ b. cond b (Some r) (find (λ (row : Row). same_table row.0 table && nat_eq row.1 n) rs)) (passed_over (same_table r.0 table) r.1 count n e.0 le) ∙ none_behind table rs count n e.1 le

behind : (table : Table) (count n : ℕ) → below table count ROWS ≡ true → count ≤ n → served_call table n ≡ None
behind table count n h le = ap (option_map (λ (row : Row). row.2)) (none_behind table ROWS count n h le)

a_behind : (n : ℕ) → 0xC0 ≤ n → served_call A n ≡ None
a_behind n le = behind A 0xC0 n refl le

b_behind : (n : ℕ) → 0x5F ≤ n → served_call B n ≡ None
b_behind n le = behind B 0x5F n refl le

c_behind : (n : ℕ) → 0x20 ≤ n → served_call C n ≡ None
c_behind n le = behind C 0x20 n refl le

-- the address of a number's entry
pub address : (at n : ℕ) → at < 0x1000 → n < 0x100 → ((n * 2 ^ 2 % 2 ^ 32 + 0x80000000) % 2 ^ 32 + at) % 2 ^ 32 ≡ 0x80000000 + (at + 4 * n)
address at n low h = omega arith

pub code_sort : (a : ℕ) → a < 0x2000 → a % 4 ≡ 0 → word_sort (0x80000000 + a) ≡ Code
code_sort a h al = grind arith

pub too_large : (n count : ℕ) → count ≤ n → nat_lt n count ≡ false
too_large n count h = grind arith

-- the listing of a table comes to the number's routine, with the table's number in r10
pub record Called (at : CallId → ℕ) (table : Table) (number : ℕ) (c : Registers) (z : Cop0) (on : Bool) (m : Memory) (p : List Access) (most to : ℕ) (e : Run) : Type 0 where
  pub to_is : to ≡ destination at (served_call table c.r9)
  pub entered : AreaEntered c z on m p most e
  pub table_is : e.regs.r10 ≡ number

module _ (go : CallId → ℕ) (there : AllThere go) (c : Registers) (z : Cop0) (on : Bool) (m : Memory) (p : List Access) (most more : ℕ) (s : Run) (h : AreaEntered c z on m p most s) (few : most + 20 ≤ more) where
  on_to : (d : Registers) (q : List Access) (passed n : ℕ) → d.r2 ≡ s.regs.r2 → d.r4 ≡ s.regs.r4 → d.r9 ≡ s.regs.r9 → d.r31 ≡ s.regs.r31 → (d.r5 ≡ s.regs.r5) × (d.r6 ≡ s.regs.r6) × (d.r7 ≡ s.regs.r7) × (d.r29 ≡ s.regs.r29) → ports q ≡ ports s.seen → n ≤ more → AreaEntered c z on m p more (record { regs = d; cop0 = s.cop0; bytes = s.bytes; seen = q; passed = passed; steps = n })
  on_to = entered_on c z on m p most more s h

  -- the number is the program's r9
  served_is : (table : Table) → served_call table s.regs.r9 ≡ served_call table c.r9
  served_is table = ap (served_call table) h.r9

  pub call_a_meets : TableAt go s.bytes A 0x200 0xc0 → Meets kernel_words (calls kernel_words []) (tree CALL_A_NODES) CALL_A (λ _. ⊥) (λ to e. Called go A 0 c z on m p more to e) s
  call_a_meets t =
      let n : ℕ = s.regs.r9 in
      let at : ℕ = 0x200 + 4 * n in
      let within = h.holds.within in
      start (calls kernel_words []) (fair kernel_words []) (tree CALL_A_NODES) CALL_A (λ _. ⊥) (λ to e. Called go A 0 c z on m p more to e) s
      (⊎_elim
      (λ lt.
      let small : at < 0x2000 = omega arith in
      let even : at % 4 ≡ 0 = omega arith in
      let is = t n lt ∙ ap (table_word go) (served_is A) in
      rw (lt-ltb n 0xc0 lt) (
        λ y. absurd (omega arith),
        λ _. rw (address 0x200 n (omega arith) (omega arith), code_sort at small even, code_place at (omega arith)) (
          λ y. record { to_is = none_there go there (served_call A c.r9) _ is y; entered = on_to _ _ _ _ refl refl refl refl (refl, refl, refl, refl) refl (omega arith); table_is = refl },
          λ ne. record { to_is = some_there go (served_call A c.r9) _ is ne; entered = on_to _ _ _ _ refl refl refl refl (refl, refl, refl, refl) refl (omega arith); table_is = refl },
        ),
      ))
      (λ ge. rw (too_large n 0xc0 ge) (λ y. record { to_is = sym (ap (destination go) (sym (served_is A) ∙ a_behind n ge)); entered = on_to _ _ _ _ refl refl refl refl (refl, refl, refl, refl) refl (omega arith); table_is = refl }, λ ne. absurd (ne refl)))
      (cases_lt n 0xc0))

  pub call_b_meets : TableAt go s.bytes B 0x874 0x5f → Meets kernel_words (calls kernel_words []) (tree CALL_B_NODES) CALL_B (λ _. ⊥) (λ to e. Called go B 1 c z on m p more to e) s
  call_b_meets t =
      let n : ℕ = s.regs.r9 in
      let at : ℕ = 0x874 + 4 * n in
      let within = h.holds.within in
      start (calls kernel_words []) (fair kernel_words []) (tree CALL_B_NODES) CALL_B (λ _. ⊥) (λ to e. Called go B 1 c z on m p more to e) s
      (⊎_elim
      (λ lt.
      let small : at < 0x2000 = omega arith in
      let even : at % 4 ≡ 0 = omega arith in
      let is = t n lt ∙ ap (table_word go) (served_is B) in
      rw (lt-ltb n 0x5f lt) (
        λ y. absurd (omega arith),
        λ _. rw (address 0x874 n (omega arith) (omega arith), code_sort at small even, code_place at (omega arith)) (
          λ y. record { to_is = none_there go there (served_call B c.r9) _ is y; entered = on_to _ _ _ _ refl refl refl refl (refl, refl, refl, refl) refl (omega arith); table_is = refl },
          λ ne. record { to_is = some_there go (served_call B c.r9) _ is ne; entered = on_to _ _ _ _ refl refl refl refl (refl, refl, refl, refl) refl (omega arith); table_is = refl },
        ),
      ))
      (λ ge. rw (too_large n 0x5f ge) (λ y. record { to_is = sym (ap (destination go) (sym (served_is B) ∙ b_behind n ge)); entered = on_to _ _ _ _ refl refl refl refl (refl, refl, refl, refl) refl (omega arith); table_is = refl }, λ ne. absurd (ne refl)))
      (cases_lt n 0x5f))

  pub call_c_meets : TableAt go s.bytes C 0x674 0x20 → Meets kernel_words (calls kernel_words []) (tree CALL_C_NODES) CALL_C (λ _. ⊥) (λ to e. Called go C 2 c z on m p more to e) s
  call_c_meets t =
      let n : ℕ = s.regs.r9 in
      let at : ℕ = 0x674 + 4 * n in
      let within = h.holds.within in
      start (calls kernel_words []) (fair kernel_words []) (tree CALL_C_NODES) CALL_C (λ _. ⊥) (λ to e. Called go C 2 c z on m p more to e) s
      (⊎_elim
      (λ lt.
      let small : at < 0x2000 = omega arith in
      let even : at % 4 ≡ 0 = omega arith in
      let is = t n lt ∙ ap (table_word go) (served_is C) in
      rw (lt-ltb n 0x20 lt) (
        λ y. absurd (omega arith),
        λ _. rw (address 0x674 n (omega arith) (omega arith), code_sort at small even, code_place at (omega arith)) (
          λ y. record { to_is = none_there go there (served_call C c.r9) _ is y; entered = on_to _ _ _ _ refl refl refl refl (refl, refl, refl, refl) refl (omega arith); table_is = refl },
          λ ne. record { to_is = some_there go (served_call C c.r9) _ is ne; entered = on_to _ _ _ _ refl refl refl refl (refl, refl, refl, refl) refl (omega arith); table_is = refl },
        ),
      ))
      (λ ge. rw (too_large n 0x20 ge) (λ y. record { to_is = sym (ap (destination go) (sym (served_is C) ∙ c_behind n ge)); entered = on_to _ _ _ _ refl refl refl refl (refl, refl, refl, refl) refl (omega arith); table_is = refl }, λ ne. absurd (ne refl)))
      (cases_lt n 0x20))
