-- A message, the values of its fields, and the bits that write them.
use Rattle.std.proofs.Common.{◌≡◌, ℕ, ◌^◌, ◌<◌, ◌≤◌, Bool, true, cond, eqb, ltb, List, [], ◌∷◌, ◌++◌, length, get_or, sym, refl, ap, ◌∙◌, arith}
use Rattle.std.proofs.lemmas.Bool.{cond_both}
use Rattle.messages.specs.declared.codes.Kind.{Kind}
use Rattle.messages.specs.declared.codes.Kind.TheVariants as kind
use Rattle.contents.specs.declared.edition.Edition.{Edition}
use Rattle.contents.specs.declared.edition.Edition.TheVariants.{Signed}
use Rattle.contents.specs.declared.message.LegFields.{LegFields}
use Rattle.contents.specs.declared.message.Message.{Message}
use Rattle.contents.specs.declared.message.Message.TheVariants.{Place, Cancel, Evaluate, Define}
use Rattle.messages.specs.Bits.{field}
use Rattle.contents.specs.Sides.{order_side_coded, leg_side_code, leg_side_coded}
use Rattle.messages.specs.Laws.{Within}
use Rattle.messages.specs.Layout.{Capable, all_ones, unused_bits, head_layout, order_layout, place_greatest, define_layout, layout}
use Rattle.messages.specs.Limits.{twos_complement}
use Rattle.messages.specs.Reading.{leg_at, leg_count, said}
use Rattle.messages.specs.Writing.{kind_of, count_of, FourLegged, leg, values_of, limit_ok}
use Rattle.messages.proofs.Coding.{order_side_bits, order_side_back, leg_side_bits, leg_side_back, mark_bits, mark_back, limit_bits_back, limit_back, limit_fit}
use Rattle.messages.proofs.FieldLaws.{field_lt}
use Rattle.messages.proofs.Trips.{values, Tiles, unused_tiles, unused_capable, unused_values}

-- every layout covers a message
pub tiles : (k : Kind) (n : ℕ) → Tiles 0 (head_layout ++ layout k n)
tiles kind.Place n = (refl, (refl, (refl, (refl, (refl, (refl, (refl, (refl, (refl, unused_tiles 100 12 refl)))))))))
tiles kind.Cancel n = (refl, (refl, (refl, (refl, (refl, (refl, (refl, (refl, (refl, unused_tiles 100 12 refl)))))))))
tiles kind.Evaluate n = (refl, (refl, (refl, (refl, (refl, (refl, (refl, (refl, (refl, unused_tiles 100 12 refl)))))))))
tiles kind.Define n = (refl, (refl, (refl, (refl, (refl, (refl, (refl, (refl, (refl, (refl, (refl, (refl, (refl, (refl, (refl, unused_tiles 72 40 refl)))))))))))))))

-- every greatest value has as many bits as its field
part_capable : (b : Bool) (x y : ℕ) → x < y → cond b x 0 < y
part_capable b x y h = cond_both b x 0 (λ z. z < y) (λ e. h) (λ e. omega arith)

pub capable : (k : Kind) (n : ℕ) → Capable (layout k n)
capable kind.Place n = (omega arith, (omega arith, (omega arith, (omega arith, (omega arith, (omega arith, (omega arith, unused_capable 100 12)))))))
capable kind.Cancel n = (omega arith, (omega arith, (omega arith, (omega arith, (omega arith, (omega arith, (omega arith, unused_capable 100 12)))))))
capable kind.Evaluate n = (omega arith, (omega arith, (omega arith, (omega arith, (omega arith, (omega arith, (omega arith, unused_capable 100 12)))))))
capable kind.Define n =
    let series : (i : ℕ) → cond (ltb i n) (all_ones 10) 0 < 2 ^ 10 = λ i. part_capable (ltb i n) (all_ones 10) (2 ^ 10) (omega arith) in
    let side : (i : ℕ) → cond (ltb i n) (all_ones 1) 0 < 2 ^ 1 = λ i. part_capable (ltb i n) (all_ones 1) (2 ^ 1) (omega arith) in
    let ratio : (i : ℕ) → cond (ltb i n) (all_ones 4) 0 < 2 ^ 4 = λ i. part_capable (ltb i n) (all_ones 4) (2 ^ 4) (omega arith) in
    (omega arith, (series 0, (side 0, (ratio 0, (series 1, (side 1, (ratio 1, (series 2, (side 2, (ratio 2, (series 3, (side 3, (ratio 3, unused_capable 72 40)))))))))))))

pub as_many : (m : Message) → length (layout (kind_of m) (count_of m)) ≡ length (values_of m)
unfolding unused_bits
as_many (Place o) = refl
as_many (Cancel n) = refl
as_many (Evaluate s) = refl
as_many (Define d) = refl

four : (ls : List LegFields) → length ls ≡ 4 → (leg ls 0 ∷ leg ls 1 ∷ leg ls 2 ∷ leg ls 3 ∷ []) ≡ ls
four [] h = absurd (omega arith)
four (a ∷ []) h = absurd (omega arith)
four (a ∷ b ∷ []) h = absurd (omega arith)
four (a ∷ b ∷ d ∷ []) h = absurd (omega arith)
four (a ∷ b ∷ d ∷ e ∷ []) h = refl
four (a ∷ b ∷ d ∷ e ∷ f ∷ ls) h = absurd (omega arith)

-- bits that write a message's values say the message
pub said_back : (bs : List ℕ) (m : Message) → FourLegged m → limit_ok m ≡ true → values bs (layout (kind_of m) (count_of m)) ≡ values_of m → said (kind_of m) Signed bs ≡ m
said_back bs (Place o) four-legs fit e =
    let at : (i : ℕ) → get_or (values bs (order_layout place_greatest)) i 0 ≡ get_or (values_of (Place o)) i 0 = λ i. ap (λ (xs : List ℕ). get_or xs i 0) e in
    let side = ap order_side_coded (at 1) ∙ order_side_back o.side in
    let market = ap (λ (x : ℕ). eqb x 1) (at 2) ∙ mark_back o.market in
    let limit = ap twos_complement (at 4) ∙ limit_back o.limit fit in
    λ i. Place (record { strategy = at 0 i; side = side i; market = market i; time_in_force = at 3 i; limit = limit i; quantity = at 5 i })
said_back bs (Cancel n) four-legs fit e = ap (λ (xs : List ℕ). Cancel (get_or xs 6 0)) e
said_back bs (Evaluate s) four-legs fit e = ap (λ (xs : List ℕ). Evaluate (get_or xs 0 0)) e
said_back bs (Define r) four-legs fit e =
    let ls = r.legs in
    let at : (i : ℕ) → get_or (values bs (define_layout r.count)) i 0 ≡ get_or (values_of (Define r)) i 0 = λ i. ap (λ (xs : List ℕ). get_or xs i 0) e in
    let a : leg_at bs 12 ≡ leg ls 0 = λ i. record { series = at 1 i; side = (ap leg_side_coded (at 2) ∙ leg_side_back (leg ls 0).side) i; ratio = at 3 i } in
    let b : leg_at bs 27 ≡ leg ls 1 = λ i. record { series = at 4 i; side = (ap leg_side_coded (at 5) ∙ leg_side_back (leg ls 1).side) i; ratio = at 6 i } in
    let d : leg_at bs 42 ≡ leg ls 2 = λ i. record { series = at 7 i; side = (ap leg_side_coded (at 8) ∙ leg_side_back (leg ls 2).side) i; ratio = at 9 i } in
    let f : leg_at bs 57 ≡ leg ls 3 = λ i. record { series = at 10 i; side = (ap leg_side_coded (at 11) ∙ leg_side_back (leg ls 3).side) i; ratio = at 12 i } in
    let legs : (leg_at bs 12 ∷ leg_at bs 27 ∷ leg_at bs 42 ∷ leg_at bs 57 ∷ []) ≡ ls = (λ i. a i ∷ b i ∷ d i ∷ f i ∷ []) ∙ four ls four-legs in
    λ i. Define (record { count = at 0 i; legs = legs i })

-- the layout of what bits say is the layout that they were read by
pub count_back : (bs : List ℕ) (m : Message) → values bs (layout (kind_of m) (count_of m)) ≡ values_of m → layout (kind_of m) (leg_count bs) ≡ layout (kind_of m) (count_of m)
count_back bs (Place o) e = refl
count_back bs (Cancel n) e = refl
count_back bs (Evaluate s) e = refl
count_back bs (Define d) e = ap (λ (xs : List ℕ). define_layout (get_or xs 0 0)) e

pub layout_said : (k : Kind) (e : Edition) (bs : List ℕ) → layout (kind_of (said k e bs)) (count_of (said k e bs)) ≡ layout k (leg_count bs)
layout_said kind.Place e bs = refl
layout_said kind.Cancel e bs = refl
layout_said kind.Evaluate e bs = refl
layout_said kind.Define e bs = refl

pub kind_said : (k : Kind) (e : Edition) (bs : List ℕ) → kind_of (said k e bs) ≡ k
kind_said kind.Place e bs = refl
kind_said kind.Cancel e bs = refl
kind_said kind.Evaluate e bs = refl
kind_said kind.Define e bs = refl

pub limit_said : (k : Kind) (bs : List ℕ) → limit_ok (said k Signed bs) ≡ true
limit_said kind.Place bs = limit_fit (field bs 20 32) (field_lt bs 20 32)
limit_said kind.Cancel bs = refl
limit_said kind.Evaluate bs = refl
limit_said kind.Define bs = refl

zero_of : (x : ℕ) → x ≤ 0 → 0 ≡ x
zero_of x h = omega arith

-- the values of what bits say are those that they write
pub values_said : (k : Kind) (bs : List ℕ) → Within bs (layout k (leg_count bs)) → values_of (said k Signed bs) ≡ values bs (layout k (leg_count bs))
values_said kind.Place bs w =
    let side = order_side_bits (field bs 16 1) (field_lt bs 16 1) in
    let market = mark_bits (field bs 17 1) (field_lt bs 17 1) in
    let limit = limit_bits_back (field bs 20 32) (field_lt bs 20 32) in
    let number = zero_of (field bs 68 32) w.1.1.1.1.1.1.0 in
    let unused = sym (unused_values bs 100 12 w.1.1.1.1.1.1.1) in
    λ i. field bs 8 8 ∷ side i ∷ market i ∷ field bs 18 2 ∷ limit i ∷ field bs 52 16 ∷ number i ∷ unused i
values_said kind.Cancel bs w =
    let strategy = zero_of (field bs 8 8) w.0 in
    let side = zero_of (field bs 16 1) w.1.0 in
    let market = zero_of (field bs 17 1) w.1.1.0 in
    let time = zero_of (field bs 18 2) w.1.1.1.0 in
    let limit = zero_of (field bs 20 32) w.1.1.1.1.0 in
    let quantity = zero_of (field bs 52 16) w.1.1.1.1.1.0 in
    let unused = sym (unused_values bs 100 12 w.1.1.1.1.1.1.1) in
    λ i. strategy i ∷ side i ∷ market i ∷ time i ∷ limit i ∷ quantity i ∷ field bs 68 32 ∷ unused i
values_said kind.Evaluate bs w =
    let side = zero_of (field bs 16 1) w.1.0 in
    let market = zero_of (field bs 17 1) w.1.1.0 in
    let time = zero_of (field bs 18 2) w.1.1.1.0 in
    let limit = zero_of (field bs 20 32) w.1.1.1.1.0 in
    let quantity = zero_of (field bs 52 16) w.1.1.1.1.1.0 in
    let number = zero_of (field bs 68 32) w.1.1.1.1.1.1.0 in
    let unused = sym (unused_values bs 100 12 w.1.1.1.1.1.1.1) in
    λ i. field bs 8 8 ∷ side i ∷ market i ∷ time i ∷ limit i ∷ quantity i ∷ number i ∷ unused i
values_said kind.Define bs w =
    let side : (p : ℕ) → leg_side_code (leg_side_coded (field bs p 1)) ≡ field bs p 1 = λ p. leg_side_bits (field bs p 1) (field_lt bs p 1) in
    let unused = sym (unused_values bs 72 40 w.1.1.1.1.1.1.1.1.1.1.1.1.1) in
    λ i. field bs 8 4 ∷ field bs 12 10 ∷ side 22 i ∷ field bs 23 4 ∷ field bs 27 10 ∷ side 37 i ∷ field bs 38 4 ∷ field bs 42 10 ∷ side 52 i ∷ field bs 53 4 ∷ field bs 57 10 ∷ side 67 i ∷ field bs 68 4 ∷ unused i
