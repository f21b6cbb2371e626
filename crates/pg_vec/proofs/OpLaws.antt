-- What the operations are worth: in each at most 2^15 nodes are added.
use Rattle.std.proofs.Common.{◌≡◌, ℕ, ◌+◌, ◌-◌, ◌*◌, ◌^◌, ◌<◌, ◌≤◌, Bool, true, false, cond, List, [], ◌∷◌, Result, Ok, Err, length, ap, ◌∙◌, sym, subst, arith, bit_and, bit_or, bit_xor}
use Rattle.std.proofs.lemmas.Nat.{mul-le}
use Rattle.pg_circuit.specs.declared.node.Gate.{Gate}
use Rattle.pg_circuit.specs.declared.node.Node.{Node}
use Rattle.pg_circuit.specs.Nodes.{IsCircuit}
use Rattle.pg_circuit.specs.Values.{gate_value, IsThere}
use Rattle.pg_word.specs.Bits.{IsWidth, sum_of, difference_of, product_of, complement_of, left_shifted, right_shifted, equal_bit, below_bit, joined, bits_between, sign_extended}
use Rattle.pg_vec.specs.Number.{number}
use Rattle.pg_vec.specs.There.{AreThere}
use Rattle.pg_vec.specs.Makes.{MakesBits}
use Rattle.pg_vec.specs.Gates.{or_made, choice_made}
use Rattle.pg_circuit.specs.Made.{constant_gate, not_gate, and_made, xor_made}
use Rattle.std.specs.Prelude.{IfOk}
use Rattle.std.specs.declared.alloc.AllocError.{AllocError}
use Rattle.pg_vec.specs.Strings.{flipped, bits_not_made, cat_made, cut_made, ext_made, sext_made, moved_up, moved_down, each_made, sum_made, carry_out_made, same_made, shift_made, bits_and_made, bits_or_made, bits_xor_made, mux_made, add_made, sub_made, mul_made, lt_made, eq_made, shl_made, shr_made}
use Rattle.pg_vec.proofs.EachLaws.{flipped-there, bits_and-makes, bits_or-makes, bits_xor-makes, mux-makes}
use Rattle.pg_vec.proofs.CompareLaws.{add-makes, sub-makes, lt-makes, eq-makes}
use Rattle.pg_vec.proofs.ShiftLaws.{shl-makes, shr-makes}
use Rattle.pg_vec.proofs.ProductLaws.{mul-makes}
use Rattle.pg_vec.proofs.StringLaws.{not-makes, cat-makes, cut-makes, ext-makes, sext-makes}

-- what was made is what is due, and a bound may be wider
made_of : (nodes : List Node) (made due : List Gate × List Node) (width most more : ℕ) (worth : List Bool → ℕ) → made ≡ due → most ≤ more → MakesBits nodes due width most worth → MakesBits nodes made width more worth
made_of nodes made due width most more worth e l m =
    subst (λ (k : List Gate × List Node). MakesBits nodes k width more worth) (sym e)
    (record {
      circuit = m.circuit;
      adds = record { front = m.adds.front; few = let p = m.adds.few in omega arith; inputs = m.adds.inputs };
      there = m.there;
      wide = m.wide;
      value = m.value;
    })

pub add_worth : (nodes : List Node) (made : List Gate × List Node) (xs ys : List Gate) → IsCircuit nodes → AreThere (length nodes) xs → AreThere (length nodes) ys → length xs ≡ length ys → IsWidth (length xs) → IsWidth (length ys) →
    made ≡ add_made nodes xs ys → MakesBits nodes made (length xs) (2 ^ 15) (λ v. sum_of (length xs) (number v xs) (number v ys))
add_worth nodes made xs ys h txs tys e w u m = made_of nodes made _ _ _ (2 ^ 15) _ m (let p = w.most in let q = u.most in omega arith) (add-makes nodes xs ys h txs tys e)

pub sub_worth : (nodes : List Node) (made : List Gate × List Node) (xs ys : List Gate) → IsCircuit nodes → AreThere (length nodes) xs → AreThere (length nodes) ys → length xs ≡ length ys → IsWidth (length xs) → IsWidth (length ys) →
    made ≡ sub_made nodes xs ys → MakesBits nodes made (length xs) (2 ^ 15) (λ v. difference_of (length xs) (number v xs) (number v ys))
sub_worth nodes made xs ys h txs tys e w u m = made_of nodes made _ _ _ (2 ^ 15) _ m (let p = w.most in let q = u.most in omega arith) (sub-makes nodes xs ys h txs tys e)

pub mul_worth : (nodes : List Node) (made : List Gate × List Node) (xs ys : List Gate) → IsCircuit nodes → AreThere (length nodes) xs → AreThere (length nodes) ys → length xs ≡ length ys → IsWidth (length xs) → IsWidth (length ys) →
    made ≡ mul_made nodes xs ys → MakesBits nodes made (length xs) (2 ^ 15) (λ v. product_of (length xs) (number v xs) (number v ys))
mul_worth nodes made xs ys h txs tys e w u m = made_of nodes made _ _ _ (2 ^ 15) _ m (let p = w.most in let q = u.most in omega (arith, mul-le (length ys) (6 * length xs) 64 384 (omega arith) (omega arith))) (mul-makes nodes xs ys h txs tys)

pub and_worth : (nodes : List Node) (made : List Gate × List Node) (xs ys : List Gate) → IsCircuit nodes → AreThere (length nodes) xs → AreThere (length nodes) ys → length xs ≡ length ys → IsWidth (length xs) → IsWidth (length ys) →
    made ≡ bits_and_made nodes xs ys → MakesBits nodes made (length xs) (2 ^ 15) (λ v. bit_and (number v xs) (number v ys))
and_worth nodes made xs ys h txs tys e w u m = made_of nodes made _ _ _ (2 ^ 15) _ m (let p = w.most in let q = u.most in omega arith) (bits_and-makes nodes xs ys h txs tys e)

pub or_worth : (nodes : List Node) (made : List Gate × List Node) (xs ys : List Gate) → IsCircuit nodes → AreThere (length nodes) xs → AreThere (length nodes) ys → length xs ≡ length ys → IsWidth (length xs) → IsWidth (length ys) →
    made ≡ bits_or_made nodes xs ys → MakesBits nodes made (length xs) (2 ^ 15) (λ v. bit_or (number v xs) (number v ys))
or_worth nodes made xs ys h txs tys e w u m = made_of nodes made _ _ _ (2 ^ 15) _ m (let p = w.most in let q = u.most in omega arith) (bits_or-makes nodes xs ys h txs tys e)

pub xor_worth : (nodes : List Node) (made : List Gate × List Node) (xs ys : List Gate) → IsCircuit nodes → AreThere (length nodes) xs → AreThere (length nodes) ys → length xs ≡ length ys → IsWidth (length xs) → IsWidth (length ys) →
    made ≡ bits_xor_made nodes xs ys → MakesBits nodes made (length xs) (2 ^ 15) (λ v. bit_xor (number v xs) (number v ys))
xor_worth nodes made xs ys h txs tys e w u m = made_of nodes made _ _ _ (2 ^ 15) _ m (let p = w.most in let q = u.most in omega arith) (bits_xor-makes nodes xs ys h txs tys e)

pub eq_worth : (nodes : List Node) (made : List Gate × List Node) (xs ys : List Gate) → IsCircuit nodes → AreThere (length nodes) xs → AreThere (length nodes) ys → length xs ≡ length ys → IsWidth (length xs) → IsWidth (length ys) →
    made ≡ eq_made nodes xs ys → MakesBits nodes made (1) (2 ^ 15) (λ v. equal_bit (number v xs) (number v ys))
eq_worth nodes made xs ys h txs tys e w u m = made_of nodes made _ _ _ (2 ^ 15) _ m (let p = w.most in let q = u.most in omega arith) (eq-makes nodes xs ys h txs tys e)

pub lt_worth : (nodes : List Node) (made : List Gate × List Node) (xs ys : List Gate) → IsCircuit nodes → AreThere (length nodes) xs → AreThere (length nodes) ys → length xs ≡ length ys → IsWidth (length xs) → IsWidth (length ys) →
    made ≡ lt_made nodes xs ys → MakesBits nodes made (1) (2 ^ 15) (λ v. below_bit (number v xs) (number v ys))
lt_worth nodes made xs ys h txs tys e w u m = made_of nodes made _ _ _ (2 ^ 15) _ m (let p = w.most in let q = u.most in omega arith) (lt-makes nodes xs ys h txs tys e)

pub shl_worth : (nodes : List Node) (made : List Gate × List Node) (xs ys : List Gate) → IsCircuit nodes → AreThere (length nodes) xs → AreThere (length nodes) ys → IsWidth (length xs) → IsWidth (length ys) →
    made ≡ shl_made nodes xs ys → MakesBits nodes made (length xs) (2 ^ 15) (λ v. left_shifted (length xs) (number v xs) (number v ys))
shl_worth nodes made xs ys h txs tys w u m = made_of nodes made _ _ _ (2 ^ 15) _ m (let p = w.most in let q = u.most in omega arith) (shl-makes nodes xs ys h txs tys w.most)

pub shr_worth : (nodes : List Node) (made : List Gate × List Node) (xs ys : List Gate) → IsCircuit nodes → AreThere (length nodes) xs → AreThere (length nodes) ys → IsWidth (length xs) → IsWidth (length ys) →
    made ≡ shr_made nodes xs ys → MakesBits nodes made (length xs) (2 ^ 15) (λ v. right_shifted (length xs) (number v xs) (number v ys))
shr_worth nodes made xs ys h txs tys w u m = made_of nodes made _ _ _ (2 ^ 15) _ m (let p = w.most in let q = u.most in omega arith) (shr-makes nodes xs ys h txs tys w.most)

pub mux_worth : (nodes : List Node) (made : List Gate × List Node) (choice : Gate) (xs ys : List Gate) → IsCircuit nodes → IsThere (length nodes) choice → AreThere (length nodes) xs → AreThere (length nodes) ys → length xs ≡ length ys → IsWidth (length xs) →
    made ≡ mux_made nodes choice xs ys → MakesBits nodes made (length xs) (2 ^ 15) (λ v. cond (gate_value v choice) (number v xs) (number v ys))
mux_worth nodes made choice xs ys h tc txs tys e w m = made_of nodes made _ _ _ (2 ^ 15) _ m (let p = w.most in omega arith) (mux-makes nodes choice xs ys h tc txs tys e)

-- ---- those that need no node

pub not_worth : (nodes : List Node) (made : List Gate × List Node) (xs : List Gate) → IsCircuit nodes → AreThere (length nodes) xs →
    made ≡ bits_not_made nodes xs → MakesBits nodes made (length xs) 0 (λ v. complement_of (length xs) (number v xs))
not_worth nodes made xs h txs m = made_of nodes made _ _ _ 0 _ m (omega arith) (not-makes nodes xs h txs)

pub cat_worth : (nodes : List Node) (made : List Gate × List Node) (xs ys : List Gate) → IsCircuit nodes → AreThere (length nodes) xs → AreThere (length nodes) ys →
    made ≡ cat_made nodes xs ys → MakesBits nodes made (length xs + length ys) 0 (λ v. joined (number v xs) (length ys) (number v ys))
cat_worth nodes made xs ys h txs tys m = made_of nodes made _ _ _ 0 _ m (omega arith) (cat-makes nodes xs ys h txs tys)

pub cut_worth : (nodes : List Node) (made : List Gate × List Node) (xs : List Gate) (h k : ℕ) → IsCircuit nodes → AreThere (length nodes) xs → k ≤ h → h < length xs →
    made ≡ cut_made nodes xs h k → MakesBits nodes made (h - k + 1) 0 (λ v. bits_between (number v xs) h k)
cut_worth nodes made xs h k c txs order within m = made_of nodes made _ _ _ 0 _ m (omega arith) (cut-makes nodes xs h k c txs order within)

pub ext_worth : (nodes : List Node) (made : List Gate × List Node) (xs : List Gate) (to : ℕ) → IsCircuit nodes → AreThere (length nodes) xs → length xs ≤ to →
    made ≡ ext_made nodes xs to → MakesBits nodes made to 0 (λ v. number v xs)
ext_worth nodes made xs to h txs wider m = made_of nodes made _ _ _ 0 _ m (omega arith) (ext-makes nodes xs to h txs wider)

pub sext_worth : (nodes : List Node) (made : List Gate × List Node) (xs : List Gate) (to : ℕ) → IsCircuit nodes → AreThere (length nodes) xs → 1 ≤ length xs → length xs ≤ to →
    made ≡ sext_made nodes xs to → MakesBits nodes made to 0 (λ v. sign_extended (number v xs) (length xs) to)
sext_worth nodes made xs to h txs least wider m = made_of nodes made _ _ _ 0 _ m (omega arith) (sext-makes nodes xs to h txs least wider)

-- ---- the operations' steps

pub pair_step : (F : List Gate → List Gate → List Gate × List Node) (x xs y ys bits result : List Gate) (new : List Node) → x ≡ xs → y ≡ ys → (bits, new) ≡ F x y → result ≡ bits → (result, new) ≡ F xs ys
pair_step F x xs y ys bits result new ex ey e r = ap (λ g. (g, new)) r ∙ e ∙ ap (λ z. F z y) ex ∙ ap (λ z. F xs z) ey

pub add_step : (nodes : List Node) (zero : Gate) (x xs y ys bits result : List Gate) (new : List Node) → zero ≡ constant_gate false → x ≡ xs → y ≡ ys → (bits, new) ≡ sum_made nodes zero x y → result ≡ bits →
    (result, new) ≡ add_made nodes xs ys
unfolding add_made
add_step nodes zero x xs y ys bits result new ez ex ey e r =
    pair_step (λ us vs. sum_made nodes (constant_gate false) us vs) x xs y ys bits result new ex ey (e ∙ ap (λ z. sum_made nodes z x y) ez) r

pub sub_step : (nodes : List Node) (one : Gate) (x xs flip y f ys bits result : List Gate) (new : List Node) → one ≡ constant_gate true → x ≡ xs → y ≡ ys → flip ≡ flipped y → f ≡ flip → (bits, new) ≡ sum_made nodes one x f → result ≡ bits →
    (result, new) ≡ sub_made nodes xs ys
unfolding sub_made
sub_step nodes one x xs flip y f ys bits result new ez ex ey eg ef e r =
    pair_step (λ us vs. sum_made nodes (constant_gate true) us vs) x xs f (flipped ys) bits result new ex (ef ∙ eg ∙ ap flipped ey) (e ∙ ap (λ z. sum_made nodes z x f) ez) r

pub and_step : (nodes : List Node) (x xs y ys bits result : List Gate) (new : List Node) → x ≡ xs → y ≡ ys → (bits, new) ≡ each_made and_made nodes x y → result ≡ bits → (result, new) ≡ bits_and_made nodes xs ys
unfolding bits_and_made
and_step nodes x xs y ys bits result new = pair_step (λ us vs. each_made and_made nodes us vs) x xs y ys bits result new

pub or_step : (nodes : List Node) (x xs y ys bits result : List Gate) (new : List Node) → x ≡ xs → y ≡ ys → (bits, new) ≡ each_made or_made nodes x y → result ≡ bits → (result, new) ≡ bits_or_made nodes xs ys
unfolding bits_or_made
or_step nodes x xs y ys bits result new = pair_step (λ us vs. each_made or_made nodes us vs) x xs y ys bits result new

pub xor_step : (nodes : List Node) (x xs y ys bits result : List Gate) (new : List Node) → x ≡ xs → y ≡ ys → (bits, new) ≡ each_made xor_made nodes x y → result ≡ bits → (result, new) ≡ bits_xor_made nodes xs ys
unfolding bits_xor_made
xor_step nodes x xs y ys bits result new = pair_step (λ us vs. each_made xor_made nodes us vs) x xs y ys bits result new

pub mux_step : (nodes : List Node) (choice : Gate) (x xs y ys bits result : List Gate) (new : List Node) → x ≡ xs → y ≡ ys → (bits, new) ≡ each_made (choice_made choice) nodes x y → result ≡ bits → (result, new) ≡ mux_made nodes choice xs ys
unfolding mux_made
mux_step nodes choice x xs y ys bits result new = pair_step (λ us vs. each_made (choice_made choice) nodes us vs) x xs y ys bits result new

pub mul_step : (nodes : List Node) (x xs y ys bits result : List Gate) (new : List Node) → x ≡ xs → y ≡ ys → (bits, new) ≡ mul_made nodes x y → result ≡ bits → (result, new) ≡ mul_made nodes xs ys
mul_step nodes x xs y ys bits result new = pair_step (λ us vs. mul_made nodes us vs) x xs y ys bits result new

pub shl_step : (nodes : List Node) (x xs y ys bits result : List Gate) (new : List Node) → x ≡ xs → y ≡ ys → (bits, new) ≡ shift_made moved_up nodes x y → result ≡ bits → (result, new) ≡ shl_made nodes xs ys
unfolding shl_made
shl_step nodes x xs y ys bits result new = pair_step (λ us vs. shift_made moved_up nodes us vs) x xs y ys bits result new

pub shr_step : (nodes : List Node) (x xs y ys bits result : List Gate) (new : List Node) → x ≡ xs → y ≡ ys → (bits, new) ≡ shift_made moved_down nodes x y → result ≡ bits → (result, new) ≡ shr_made nodes xs ys
unfolding shr_made
shr_step nodes x xs y ys bits result new = pair_step (λ us vs. shift_made moved_down nodes us vs) x xs y ys bits result new

pub eq_step : (nodes : List Node) (gate : Gate) (x xs y ys result : List Gate) (new : List Node) → x ≡ xs → y ≡ ys → (gate, new) ≡ same_made nodes (constant_gate true) x y → result ≡ gate ∷ [] → (result, new) ≡ eq_made nodes xs ys
unfolding eq_made
eq_step nodes gate x xs y ys result new ex ey e r =
    ap (λ g. (g, new)) r
    ∙ ap (λ (m : Gate × List Node). (m.0 ∷ [], m.1)) (e ∙ ap (λ z. same_made nodes (constant_gate true) z y) ex ∙ ap (λ z. same_made nodes (constant_gate true) xs z) ey)

pub lt_step : (nodes : List Node) (one carry below : Gate) (x xs flip y f ys result : List Gate) (new : List Node) → one ≡ constant_gate true → x ≡ xs → y ≡ ys → flip ≡ flipped y → f ≡ flip →
    (carry, new) ≡ carry_out_made nodes one x f → below ≡ not_gate carry → result ≡ below ∷ [] → (result, new) ≡ lt_made nodes xs ys
unfolding lt_made
lt_step nodes one carry below x xs flip y f ys result new ez ex ey eg ef e eb r =
    ap (λ g. (g, new)) (r ∙ ap (λ g. g ∷ []) eb)
    ∙ ap (λ (m : Gate × List Node). (not_gate m.0 ∷ [], m.1))
    (e ∙ ap (λ z. carry_out_made nodes z x f) ez ∙ ap (λ z. carry_out_made nodes (constant_gate true) z f) ex ∙ ap (λ z. carry_out_made nodes (constant_gate true) xs z) (ef ∙ eg ∙ ap flipped ey))

pub ok_map : (r : Result (List Gate) AllocError) (P Q : List Gate → Type 0) → ((bits : List Gate) → P bits → Q bits) → IfOk r P → IfOk r Q
ok_map (Ok bits) P Q f h = f bits h
ok_map (Err e) P Q f h = h

-- a string that was flipped is there
pub flip_there : (places : ℕ) (x xs flip f : List Gate) → AreThere places xs → x ≡ xs → flip ≡ flipped x → f ≡ flip → AreThere places f
flip_there places x xs flip f t ex eg ef = subst (AreThere places) (sym (ef ∙ eg ∙ ap flipped ex)) (flipped-there places xs t)
