-- Reading a number of seven-bit groups: one byte of it in each case, and what holds of all of it.
use Rattle.std.proofs.Common.{◌≡◌, ℕ, zero, suc, ◌+◌, ◌*◌, ◌/◌, ◌%◌, ◌^◌, ◌<◌, ◌≤◌, false, cond, ◌&&◌, eqb, ltb, ◌⊎◌, List, [], ◌∷◌, ◌++◌, length, get_or, drop, IfOk, Ok, Err, Result, sym, refl, ap, ◌∙◌, inl, inr, mul-le-mul_right, add-one, arith}
use native.Mathlib.Nat.{div-add-mod}
use Rattle.container.specs.Container.{varint, varint_from, varint_of}
use Rattle.container.specs.declared.fault.Fault.{Fault}
use Rattle.container.specs.declared.fault.Fault.TheVariants.{Cut, Malformed}
use Rattle.container.specs.declared.varint.Varint.{Varint}
use Rattle.container.proofs.Groups.{varint_more, varint_small}
use Rattle.std.proofs.lemmas.List.{at_drop_more}
use Rattle.std.proofs.lemmas.Result.{IfOk-weaker}
use Rattle.std.proofs.lemmas.Bool.{and_from, cases_lt, cond_both, eq-eqb, le-ltb, lt-ltb}
use Rattle.std.proofs.lemmas.Bool.Decides.{nat_tests}
use Rattle.std.specs.List.{AllByRecursion}

-- ONE BYTE
module _ (place value size b : ℕ) (bs : List ℕ) where
  pub too_large : 2 ^ 64 ≤ value + b % 128 * place → varint_from place value size (b ∷ bs) ≡ Err Malformed
  unfolding varint_from
  too_large h = rw (le-ltb (value + b % 128 * place) (2 ^ 64) h)

  module _ (fits : value + b % 128 * place < 2 ^ 64) where
    last : b < 128 → varint_from place value size (b ∷ bs)
        ≡ cond (eqb b 0 && ltb 1 place) (Err Malformed) (Ok (record { value = value + b % 128 * place; size = suc size }))
    unfolding varint_from
    last l = rw (lt-ltb (value + b % 128 * place) (2 ^ 64) fits, lt-ltb b 128 l)

    pub last_zero : b ≡ 0 → 1 < place → varint_from place value size (b ∷ bs) ≡ Err Malformed
    last_zero z h = rw (last (omega arith), and_from (eqb b 0) (ltb 1 place) (eq-eqb b 0 z) (lt-ltb 1 place h))

    pub last_some : b < 128 → (eqb b 0 && ltb 1 place) ≡ false
        → varint_from place value size (b ∷ bs) ≡ Ok (record { value = value + b % 128 * place; size = suc size })
    last_some l h = rw (last l, h)

    pub no_room : 128 ≤ b → 2 ^ 64 ≤ place * 128 → varint_from place value size (b ∷ bs) ≡ Err Malformed
    unfolding varint_from
    no_room l h = rw (lt-ltb (value + b % 128 * place) (2 ^ 64) fits, le-ltb b 128 l, le-ltb (place * 128) (2 ^ 64) h)

    pub more : 128 ≤ b → place * 128 < 2 ^ 64
        → varint_from place value size (b ∷ bs) ≡ varint_from (place * 128) (value + b % 128 * place) (suc size) bs
    unfolding varint_from
    more l h = rw (lt-ltb (value + b % 128 * place) (2 ^ 64) fits, le-ltb b 128 l, lt-ltb (place * 128) (2 ^ 64) h)

-- a turn of the loop that reads: what its byte gives is what all the bytes give
pub from_byte : (bytes : List ℕ) (place value size : ℕ) → size < length bytes
    → varint_from place value size (drop size bytes) ≡ varint_of bytes → {r : Result Varint Fault}
    → varint_from place value size (get_or bytes size 0 ∷ drop (suc size) bytes) ≡ r → r ≡ varint_of bytes
from_byte bytes place value size h inv e =
    sym e ∙ rw (sym (add-one size)) (sym (at_drop_more (varint_from place value size) bytes size 0 h)) ∙ inv

pub same_fault : (e f : Fault) → ◌≡◌ {A = Result ℕ Fault} (Err e) (Err f) → e ≡ f
same_fault e f h = cc

same_varint : {v w m n : ℕ} → v ≡ w → m ≡ n → ◌≡◌ {A = Result Varint Fault} (Ok (record { value = v; size = m })) (Ok (record { value = w; size = n }))
same_varint e f = rw (e, f)

-- WHAT WAS WRITTEN IS READ BACK: after the groups below a place, the others add their value times the place
module _ (n place value size : ℕ) (rest : List ℕ) (fits : value + n * place < 2 ^ 64) where
  reads_last : n < 128 → (eqb n 0 && ltb 1 place) ≡ false
      → varint_from place value size (varint n ++ rest) ≡ Ok (record { value = value + n * place; size = size + length (varint n) })
  reads_last l short =
      let m : n % 128 ≡ n = omega arith in
      rw (varint_small n l, last_some place value size n rest (rw m fits) l short, m, add-one size)

  reads_group : 128 ≤ n
      → varint_from place value size (varint n ++ rest) ≡ varint_from (place * 128) (value + n % 128 * place) (suc size) (varint (n / 128) ++ rest)
  reads_group l =
      let m : (128 + n % 128) % 128 ≡ n % 128 = omega arith in
      let a : n % 128 * place ≤ n * place = mul-le-mul_right place (omega arith) in
      let b : 128 * place ≤ n * place = mul-le-mul_right place l in
      rw (varint_more n l, more place value size (128 + n % 128) (varint (n / 128) ++ rest) (rw m (omega arith)) (omega arith) (omega arith), m)

reads : (k n place value size : ℕ) (rest : List ℕ) → n ≤ k → value + n * place < 2 ^ 64 → (eqb n 0 && ltb 1 place) ≡ false
    → varint_from place value size (varint n ++ rest) ≡ Ok (record { value = value + n * place; size = size + length (varint n) })
reads zero n place value size rest h fits short = reads_last n place value size rest fits (omega arith) short
reads (suc k) n place value size rest h fits short = elim (cases_lt n 128) [
  | inl l ↦ reads_last n place value size rest fits l short
  | inr l ↦
      let e : (128 * (n / 128) + n % 128) * place ≡ n * place = ap (λ x. x * place) (div-add-mod n 128) in
      reads_group n place value size rest fits l
      ∙ reads k (n / 128) (place * 128) (value + n % 128 * place) (suc size) rest (omega arith) (omega arith) (grind (arith, nat_tests))
      ∙ same_varint (omega arith) (rw (varint_more n l) (omega arith))
]

pub varint_reads : (n : ℕ) (rest : List ℕ) → n < 2 ^ 64 → varint_of (varint n ++ rest) ≡ Ok (record { value = n; size = length (varint n) })
varint_reads n rest h = reads n n 1 0 0 rest (omega arith) (omega arith) (grind (arith, nat_tests)) ∙ same_varint (omega arith) (omega arith)

-- MORE BYTES change nothing, unless the number was cut
pub settled : (bs tail : List ℕ) (place value size : ℕ)
    → (varint_from place value size bs ≡ Err Cut) ⊎ (varint_from place value size (bs ++ tail) ≡ varint_from place value size bs)
unfolding varint_from
settled [] tail place value size = inl refl
settled (b ∷ bs) tail place value size =
    elim (cases_lt (value + b % 128 * place) (2 ^ 64)) [
      | inr h ↦ inr (too_large place value size b (bs ++ tail) h ∙ sym (too_large place value size b bs h))
      | inl fits ↦ elim (cases_lt b 128) [
        | inl l ↦ inr (last place value size b (bs ++ tail) fits l ∙ sym (last place value size b bs fits l))
        | inr l ↦ elim (cases_lt (place * 128) (2 ^ 64)) [
          | inr h ↦ inr (no_room place value size b (bs ++ tail) fits l h ∙ sym (no_room place value size b bs fits l h))
          | inl h ↦ elim (settled bs tail (place * 128) (value + b % 128 * place) (suc size)) [
            | inl e ↦ inl (more place value size b bs fits l h ∙ e)
            | inr e ↦ inr (more place value size b (bs ++ tail) fits l h ∙ e ∙ sym (more place value size b bs fits l h))
          ]
        ]
      ]
    ]

-- A NUMBER THAT WAS READ has 64 bits, and took a byte or more, all of them there
abbrev pub Sized : (size bytes : ℕ) → Varint → Type 0
Sized size bytes v = (size < v.size) × (v.size ≤ size + bytes) × (v.value < 2 ^ 64)

pub read_sized : (bs : List ℕ) (place value size : ℕ) → IfOk (varint_from place value size bs) (Sized size (length bs))
unfolding varint_from
read_sized [] place value size = tt
read_sized (b ∷ bs) place value size =
    elim (cases_lt (value + b % 128 * place) (2 ^ 64)) [
      | inr h ↦ rw (too_large place value size b bs h) tt
      | inl fits ↦ elim (cases_lt b 128) [
        | inl l ↦ rw (last place value size b bs fits l)
            (cond_both (eqb b 0 && ltb 1 place) (Err Malformed) (Ok (record { value = value + b % 128 * place; size = suc size })) (λ r. IfOk r (Sized size (suc (length bs))))
            (λ _. tt) (λ _. (omega arith, omega arith, fits)))
        | inr l ↦ elim (cases_lt (place * 128) (2 ^ 64)) [
          | inr h ↦ rw (no_room place value size b bs fits l h) tt
          | inl h ↦ rw (more place value size b bs fits l h)
              (IfOk-weaker (varint_from (place * 128) (value + b % 128 * place) (suc size) bs) (Sized (suc size) (length bs)) (Sized size (suc (length bs)))
              (λ v w. (omega arith, omega arith, w.2)) (read_sized bs (place * 128) (value + b % 128 * place) (suc size)))
        ]
      ]
    ]

-- ONLY THE SHORTEST FORM IS READ: the bytes of a number that was read are the number's
record Shortest (place value size : ℕ) (bs : List ℕ) (v : Varint) : Type 0 where
  groups : ℕ
  adds : v.value ≡ value + groups * place
  takes : v.size ≡ size + length (varint groups)
  bytes : bs ≡ varint groups ++ drop (length (varint groups)) bs
  short : (0 < groups) ⊎ (place ≤ 1)

module _ (place value size b : ℕ) (bs : List ℕ) where
  shortest_last : b < 128 → (eqb b 0 && ltb 1 place) ≡ false
      → Shortest place value size (b ∷ bs) (record { value = value + b % 128 * place; size = suc size })
  shortest_last l h =
      let m : b % 128 ≡ b = omega arith in
      record {
        groups = b;
        adds = rw m;
        takes = rw (varint_small b l) (omega arith);
        bytes = rw (varint_small b l);
        short = elim (cases_lt 0 b) [ inl j ↦ inl j | inr j ↦ inr (let f : place ≤ 1 = grind (arith, nat_tests) in f) ];
      }

  shortest_more : 0 < place → 128 ≤ b → b < 256 → (v : Varint) → Shortest (place * 128) (value + b % 128 * place) (suc size) bs v
      → Shortest place value size (b ∷ bs) v
  shortest_more p l u v s =
      let g : ℕ = s.groups in
      let some : 0 < g = elim s.short [ inl j ↦ j | inr j ↦ absurd (let f : ⊥ = omega arith in f) ] in
      let n : ℕ = 128 * g + b % 128 in
      let q : n / 128 ≡ g = omega arith in
      let r : 128 + n % 128 ≡ b = omega arith in
      let e : varint n ≡ b ∷ varint g = rw (varint_more n (omega arith), q, r) in
      record {
        groups = n;
        adds = s.adds ∙ (let f : value + b % 128 * place + g * (place * 128) ≡ value + (128 * g + b % 128) * place = omega arith in f);
        takes = s.takes ∙ rw e (omega arith);
        bytes = rw e (ap (λ xs. b ∷ xs) s.bytes);
        short = inl (omega arith);
      }

read_shortest : (bs : List ℕ) (place value size : ℕ) → 0 < place → AllByRecursion (λ b. b < 256) bs → IfOk (varint_from place value size bs) (Shortest place value size bs)
unfolding varint_from
read_shortest [] place value size p below = tt
read_shortest (b ∷ bs) place value size p below =
    elim (cases_lt (value + b % 128 * place) (2 ^ 64)) [
      | inr h ↦ rw (too_large place value size b bs h) tt
      | inl fits ↦ elim (cases_lt b 128) [
        | inl l ↦ rw (last place value size b bs fits l)
            (cond_both (eqb b 0 && ltb 1 place) (Err Malformed) (Ok (record { value = value + b % 128 * place; size = suc size }))
            (λ r. IfOk r (Shortest place value size (b ∷ bs))) (λ _. tt) (shortest_last place value size b bs l))
        | inr l ↦ elim (cases_lt (place * 128) (2 ^ 64)) [
          | inr h ↦ rw (no_room place value size b bs fits l h) tt
          | inl h ↦ rw (more place value size b bs fits l h)
              (IfOk-weaker (varint_from (place * 128) (value + b % 128 * place) (suc size) bs) (Shortest (place * 128) (value + b % 128 * place) (suc size) bs)
              (Shortest place value size (b ∷ bs)) (shortest_more place value size b bs p l below.0)
              (read_shortest bs (place * 128) (value + b % 128 * place) (suc size) (omega arith) below.1))
        ]
      ]
    ]

pub varint_written : (bs : List ℕ) → AllByRecursion (λ b. b < 256) bs
    → IfOk (varint_of bs) (λ v. (v.size ≡ length (varint v.value)) × (bs ≡ varint v.value ++ drop v.size bs))
varint_written bs below =
    IfOk-weaker (varint_of bs) (Shortest 1 0 0 bs) (λ v. (v.size ≡ length (varint v.value)) × (bs ≡ varint v.value ++ drop v.size bs))
    (λ v s.
    let e : v.value ≡ s.groups = s.adds ∙ (let f : 0 + s.groups * 1 ≡ s.groups = omega arith in f) in
    let t : v.size ≡ length (varint s.groups) = s.takes ∙ (let f : 0 + length (varint s.groups) ≡ length (varint s.groups) = omega arith in f) in
    (rw e t, rw (e, t) s.bytes))
    (read_shortest bs 1 0 0 (omega arith) below)
