-- The ROM's words and bytes.
use Rattle.std.proofs.Common.{◌≡◌, ℕ, ◌+◌, ◌-◌, ◌*◌, ◌/◌, ◌%◌, ◌^◌, ◌<◌, ◌≤◌, true, cond, List, length, refl, sym, ap, subst, ⊎_elim, ◌∙◌, arith, rules, tests, get_or}
use Rattle.std.specs.Prelude.{is_some, nat_lt}
use Rattle.std.proofs.lemmas.Bool.{cases_eq, cases_lt, lt-ltb}
use Rattle.kern_image.specs.Words.{HasWords, word_of, listed}
use Rattle.psx_base.specs.Addresses.{gate_at, place}
use Rattle.psx_base.specs.Memory.{word, is_mapped}
use Rattle.psx_cpu.specs.DataAccess.{read_word}
use Rattle.kern_layout.specs.BlockWords.{block_word, IsBlock}
use Rattle.kern_layout.specs.Opening.{Opens}
use Rattle.kern_layout.specs.Stands.{is_fixed}
use Rattle.abs_run.specs.Serves.{GatesRead}
use Rattle.kern_stay.specs.Words.{Stand, over, overlaid}
use Rattle.kern_image.specs.Rom.{all_pieces, boot_word, kernel_word, opened_word, rom, rom_word, rom_words}
use Rattle.kern_image.specs.RomLaws.{BootReads, BlockReads, BlockOpens, FixedReads, FixedHolds, PiecesStand}
use Rattle.kern_image.specs.declared.boot.TheConstants.{BOOT}
use Rattle.kern_image.proofs.Bytes.{length-listed, get_or-listed, listed-from_all, length-bytes, word_of-bytes, bytes_small}
use Rattle.kern_image.proofs.Fixed.{word-held, byte-from_words, fixed_word, fixed_low}
use Rattle.kern_image.proofs.Pieces.{list_fits, overlaid-behind, overlaid_fits, overlaid_same, overlaid_stand, stand_there}

pub rom_words-from_all : (xs : List ℕ) → length xs ≡ 0x20000 → ((k : ℕ) → k < 0x20000 → get_or xs k 0 ≡ rom_word (4 * k)) → xs ≡ rom_words
unfolding rom_words
rom_words-from_all xs len all = listed-from_all xs 0x20000 (λ k. rom_word (4 * k)) len all

pub length-rom_words : length rom_words ≡ 0x20000
unfolding rom_words
length-rom_words = length-listed (λ k. rom_word (4 * k)) 0x20000

get_or-rom_words : (k : ℕ) → k < 0x20000 → get_or rom_words k 0 ≡ rom_word (4 * k)
unfolding rom_words
get_or-rom_words k low = get_or-listed (λ k. rom_word (4 * k)) 0x20000 k low

pub length-rom : length rom ≡ 0x80000
unfolding rom
length-rom = let words = length-rom_words in omega (arith, length-bytes rom_words, words)

pub rom_small : (i : ℕ) → get_or rom i 0 < 2 ^ 8
unfolding rom
rom_small i = bytes_small rom_words i

-- the words fit
opened_fits : (a : ℕ) → opened_word a < 2 ^ 32
unfolding opened_word
opened_fits a = grind arith

pub kernel_fits : (a : ℕ) → kernel_word a < 2 ^ 32
unfolding kernel_word listed
kernel_fits a = overlaid_fits all_pieces opened_word a refl (opened_fits a)

boot_fits : (o : ℕ) → boot_word o < 2 ^ 32
unfolding boot_word
boot_fits o = list_fits BOOT (o / 4) refl

pub rom_fits : (o : ℕ) → rom_word o < 2 ^ 32
unfolding rom_word
rom_fits o = let boot = boot_fits o in let kernel = kernel_fits (o - 0x10000) in grind (arith, boot, kernel)

-- the word at an offset
pub word_of-rom : (o : ℕ) → o % 4 ≡ 0 → o < 0x80000 → word_of rom o ≡ rom_word o
unfolding rom
word_of-rom o aligned low =
    let at : 4 * (o / 4) ≡ o = omega arith in
    let is : get_or rom_words (o / 4) 0 ≡ rom_word o = get_or-rom_words (o / 4) (omega arith) ∙ ap rom_word at in
    let words = length-rom_words in
    word_of-bytes rom_words (o / 4) o (omega arith) (omega (arith, words)) (rw is (rom_fits o)) ∙ is

rom_word-boot : (k : ℕ) → k < length BOOT → rom_word (4 * k) ≡ get_or BOOT k 0
unfolding rom_word boot_word
rom_word-boot k low = ap (λ b. cond b (get_or BOOT (4 * k / 4) 0) (cond (nat_lt (4 * k) 0x20000) (kernel_word (4 * k - 0x10000)) 0)) (lt-ltb (4 * k) 0x10000 (omega arith)) ∙ ap (λ i. get_or BOOT i 0) (let e : 4 * k / 4 ≡ k = omega arith in e)

rom_word-block : (a : ℕ) → a < 0x10000 → rom_word (0x10000 + a) ≡ kernel_word a
unfolding rom_word
rom_word-block a low = search (tests, rules)

pub boot_reads : BootReads
boot_reads k low = word_of-rom (4 * k) (omega arith) (omega arith) ∙ rom_word-boot k low

pub block_reads : BlockReads
block_reads a al low = word_of-rom (0x10000 + a) (omega (arith, al)) (omega (arith, low)) ∙ rom_word-block a low

pub block_opens : BlockOpens
unfolding kernel_word listed opened_word
block_opens a al low high = overlaid-behind 0 0xB000 all_pieces opened_word a refl low ∙ search (tests, rules)

pub fixed_reads : FixedReads
fixed_reads m a holds al fixed = word-held m rom a holds al fixed ∙ block_reads a al (fixed_low a fixed)

pub fixed_holds : FixedHolds
fixed_holds m small is a fixed =
    let r = a / 4 * 4 in
    let al : r % 4 ≡ 0 = omega arith in
    let there : is_fixed r ≡ true = fixed_word a r (omega arith) fixed in
    byte-from_words m rom a small rom_small (is r al there ∙ sym (block_reads r al (fixed_low r there)))

block_stand : Stand kernel_word all_pieces
unfolding kernel_word listed
block_stand = overlaid_stand 0 0xB000 all_pieces opened_word kernel_word refl (λ a low. refl)

pub pieces_stand : PiecesStand
unfolding listed
pieces_stand m holds = stand_there (word m) kernel_word all_pieces refl (λ a al fixed. fixed_reads m a holds al fixed) block_stand

-- the word at a gate
by_gate : (P : ℕ → Type 0) → P 0xA0 → P 0xB0 → P 0xC0 → P 0xD0 → P 0xE0 → (p : ℕ) → is_some (gate_at p) ≡ true → P p
by_gate P a b c d e p h =
    ⊎_elim (λ q. subst P (sym q) a)
    (λ not_a. ⊎_elim (λ q. subst P (sym q) b)
    (λ not_b. ⊎_elim (λ q. subst P (sym q) c)
    (λ not_c. ⊎_elim (λ q. subst P (sym q) d)
    (λ not_d. ⊎_elim (λ q. subst P (sym q) e)
    (λ not_e. absurd (grind (arith, not_a, not_b, not_c, not_d, not_e, h)))
    (cases_eq p 0xE0)) (cases_eq p 0xD0)) (cases_eq p 0xC0)) (cases_eq p 0xB0)) (cases_eq p 0xA0)

gate_words : (kernel_word 0xA0 ≡ 12) × ((kernel_word 0xB0 ≡ 12) × ((kernel_word 0xC0 ≡ 12) × ((kernel_word 0xD0 ≡ 12) × (kernel_word 0xE0 ≡ 12))))
unfolding kernel_word listed over
gate_words = (refl, (refl, (refl, (refl, refl))))

pub gates_read : GatesRead rom
unfolding read_word
gates_read m at holds h =
    by_gate (λ p. cond (is_mapped p 4) (word m p) 0 ≡ 12)
    (fixed_reads m 0xA0 holds refl refl ∙ gate_words.0)
    (fixed_reads m 0xB0 holds refl refl ∙ gate_words.1.0)
    (fixed_reads m 0xC0 holds refl refl ∙ gate_words.1.1.0)
    (fixed_reads m 0xD0 holds refl refl ∙ gate_words.1.1.1.0)
    (fixed_reads m 0xE0 holds refl refl ∙ gate_words.1.1.1.1)
    (place at) h

-- the block as it is made: the words of the kernel's code, and then the opening values
opened-below : (a : ℕ) → a < 0xB000 → opened_word a ≡ 0
unfolding opened_word
opened-below a low = search (tests, rules)

kernel-below : (a : ℕ) → a < 0xB000 → overlaid all_pieces (λ at. 0) a ≡ kernel_word a
unfolding kernel_word listed
kernel-below a low = overlaid_same all_pieces (λ at. 0) opened_word a (sym (opened-below a low))

pub kernel_block : (placed last : List ℕ) → IsBlock placed (overlaid all_pieces (λ at. 0)) → Opens (block_word last) → ((a : ℕ) → a < 0xB000 → block_word last a ≡ block_word placed a) → HasWords last kernel_word
kernel_block placed last code opens below a al low =
    ⊎_elim
    (λ (h : a < 0xB000).
    let at : 4 * (a / 4) ≡ a = omega (arith, al) in
    below a h ∙ code.at (a / 4) (omega (arith, low)) ∙ ap (overlaid all_pieces (λ at. 0)) at ∙ kernel-below a h)
    (λ (h : 0xB000 ≤ a). opens a al h low ∙ sym (block_opens a al h low))
    (cases_lt a 0xB000)
