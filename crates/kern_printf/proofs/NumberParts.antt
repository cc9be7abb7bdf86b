-- A number by its sign, and how many digits it is to have.
use Rattle.psx_flow.proofs.Kit.{◌≡◌, ℕ, ◌+◌, ◌-◌, ◌%◌, ◌^◌, ◌<◌, ◌≤◌, inl, refl, sym, ap, ◌∙◌, arith, true, false, Run}
use Rattle.std.proofs.Common.{Bool, Option, Some, None}
use Rattle.std.specs.Prelude.{nat_le, is_some, unwrap_or, if◌then◌else◌, ◌&&◌}
use Rattle.std.proofs.lemmas.Bool.{le-leb}
use Rattle.psx_base.specs.KernelState.{KernelState}
use Rattle.psx_cpu.specs.Words.{truth}
use Rattle.abs_kernel.specs.Stay.{Stay}
use Rattle.abs_kernel.specs.Conversion.{Conversion, limited}
use Rattle.abs_kernel.specs.Printf.{print_format}
use Rattle.kern_stay.specs.Stages.{Less}
use Rattle.kern_printf.specs.Walking.{Walk, turns}
use Rattle.kern_printf.specs.Interfaces.{interface}
use Rattle.kern_printf.specs.declared.places.TheConstants as places
use Rattle.std.specs.Prelude.{◌/◌, max, not, is_none, length}
use Rattle.std.proofs.Math.Nat.{max-eq_left, max-eq_right, pow-zero, div-one}
use Rattle.abs_kernel.specs.Conversion.{padded, number_text}
use Rattle.kern_printf.specs.Texts.{signs, least, figures}
use Rattle.kern_printf.specs.Taking.{HasNumber, writes_all}
use Rattle.kern_printf.proofs.TextForms.{number_is}
use Rattle.kern_printf.proofs.Bodies.{is_true, is_false}

-- ---- its sign

pub parts : (c : Conversion) (with_sign : Bool) (base letter value : ℕ) (negative : Bool) → (with_sign && nat_le (2 ^ 31) value) ≡ negative
    → number_text c with_sign base letter value ≡ padded c (figures negative (least c negative) base letter (if negative then 2 ^ 32 - value else value))
parts c with_sign base letter value negative e = number_is c with_sign base letter value ∙ ap (λ b. padded c (figures b (least c b) base letter (if b then 2 ^ 32 - value else value))) e

pub has_minus : (b : Bool) (r value : ℕ) → r ≡ truth b → (r ≡ 0 → ⊥) → 2 ^ 31 ≤ value → (b && nat_le (2 ^ 31) value) ≡ true
has_minus b r value e ne h = ap (λ y. y && nat_le (2 ^ 31) value) (is_true b r e ne) ∙ le-leb (2 ^ 31) value h

pub has_none : (b : Bool) (value : ℕ) → value < 2 ^ 31 → (b && nat_le (2 ^ 31) value) ≡ false
has_none b value h = let e : nat_le (2 ^ 31) value ≡ false = grind (arith, h) in ap (λ y. b && y) e ∙ none b
  where
    none : (y : Bool) → (y && false) ≡ false
    none true = refl
    none false = refl

pub no_sign : (b : Bool) (r value : ℕ) → r ≡ truth b → r ≡ 0 → (b && nat_le (2 ^ 31) value) ≡ false
no_sign b r value e z = ap (λ y. y && nat_le (2 ^ 31) value) (is_false b r e z)

-- ---- how many digits

pub none_is : (o : Option ℕ) (r : ℕ) → r ≡ truth (is_some o) → r ≡ 0 → o ≡ None
none_is None r e z = refl
none_is (Some p) r e z = absurd (omega (arith, e, z))

pub sign_length : (negative : Bool) → length (signs negative) ≡ truth negative
sign_length true = refl
sign_length false = refl

abbrev least_by : (zeros left : Bool) (precision : Option ℕ) (width signed : ℕ) → ℕ
least_by zeros left precision width signed = max (if zeros && (not left && is_none precision) then limited width - signed else 0) (limited (unwrap_or precision 1))

one_or : (n : ℕ) → 1 ≤ n → max n (limited 1) ≡ n
one_or n h = max-eq_left h

pub least_filled : (c : Conversion) (negative : Bool) (n : ℕ) → c.zeros ≡ true → c.left ≡ false → c.precision ≡ None → n ≡ limited c.width - truth negative → 1 ≤ n → least c negative ≡ n
least_filled c negative n z l o e h =
    (λ i. least_by (z i) (l i) (o i) c.width (sign_length negative i)) ∙ ap (λ m. max m (limited 1)) (sym e) ∙ one_or n h

pub least_short : (c : Conversion) (negative : Bool) → c.precision ≡ None → limited c.width ≤ truth negative → least c negative ≡ 1
least_short c negative o h =
    let gone : limited c.width - truth negative ≡ 0 = omega (arith, h) in
    (λ i. least_by c.zeros c.left (o i) c.width (sign_length negative i)) ∙ ap (λ m. max (if c.zeros && (not c.left && true) then m else 0) (limited 1)) gone ∙ go (c.zeros && (not c.left && true))
  where
    go : (b : Bool) → max (if b then 0 else 0) (limited 1) ≡ 1
    go true = refl
    go false = refl

pub least_plain : (c : Conversion) (negative : Bool) → c.zeros ≡ false → c.precision ≡ None → least c negative ≡ 1
least_plain c negative z o = λ i. least_by (z i) c.left (o i) c.width (length (signs negative))

pub least_left : (c : Conversion) (negative : Bool) → c.left ≡ true → c.precision ≡ None → least c negative ≡ 1
least_left c negative l o = (λ i. least_by c.zeros (l i) (o i) c.width (length (signs negative))) ∙ go c.zeros
  where
    go : (b : Bool) → max (if b && false then limited c.width - length (signs negative) else 0) (limited 1) ≡ 1
    go true = refl
    go false = refl

pub least_told : (c : Conversion) (negative : Bool) (r n : ℕ) → r ≡ truth (is_some c.precision) → (r ≡ 0 → ⊥) → n ≡ limited (unwrap_or c.precision 0) → least c negative ≡ n
least_told c negative r n e ne told = go c.precision e told
  where
    none : (z l : Bool) → (z && (l && false)) ≡ false
    none true true = refl
    none true false = refl
    none false l = refl

    go : (o : Option ℕ) → r ≡ truth (is_some o) → n ≡ limited (unwrap_or o 0) → least_by c.zeros c.left o c.width (length (signs negative)) ≡ n
    go None e told = absurd (ne e)
    go (Some p) e told = ap (λ b. max (if b then limited c.width - length (signs negative) else 0) (limited p)) (none c.zeros (not c.left)) ∙ (let lowest : 0 ≤ limited p = omega arith in max-eq_right lowest) ∙ sym told

-- at COUNT
pub to_count : (s : KernelState) (todo fuel taken count : ℕ) (c : Conversion) (negative : Bool) (base letter : ℕ) (stay : Stay) (f : Run) → turns fuel 0xEF0000 ≤ todo → Walk s fuel taken 0 f → f.regs.r17 ≡ count % 2 ^ 32
    → f.regs.r18 ≡ truth c.left → f.regs.r20 ≡ limited c.width → HasNumber negative base letter f → f.regs.r8 ≡ 0x2D → f.regs.r9 < 2 ^ 32 → f.regs.r10 ≡ 0 → f.regs.r11 ≡ 1 → f.regs.r12 ≡ f.regs.r9 → f.regs.r21 < 2 ^ 8
    → least c negative ≡ f.regs.r21 → stay ≡ writes_all (padded c (figures negative (least c negative) base letter f.regs.r9)) count (λ n. print_format fuel s f.regs.r4 taken n None) → Less (interface s) todo places.COUNT (4096 + 129) stay f
to_count s todo fuel taken count c negative base letter stay f more w n r18 r20 number r8 small r10 r11 r12 few least_is is = (
  turns fuel (0xEE0000 + 64),
  omega (arith, more),
  record {
    fuel = fuel;
    taken = taken;
    count = count;
    c = c;
    negative = negative;
    base = base;
    letter = letter;
    turned = 0;
    walk = w;
    r17 = n;
    r18 = r18;
    r20 = r20;
    number = number;
    r8 = r8;
    small = small;
    r10 = r10;
    r11 = r11 ∙ sym (pow-zero base);
    r12 = r12 ∙ sym (div-one f.regs.r9) ∙ ap (λ y. f.regs.r9 / y) (sym (pow-zero base));
    some = inl refl;
    turned_few = omega arith;
    least_small = few;
    is = is ∙ ap (λ m. writes_all (padded c (figures negative m base letter f.regs.r9)) count (λ n. print_format fuel s f.regs.r4 taken n None)) least_is;
    to_do = omega arith;
    paid = omega arith;
  },
)
