-- What it does to the orders at rest that one more comes, under a number that none of them has.
use Rattle.std.proofs.Common.{◌≡◌, ℕ, ◌≤◌, ◌⊎◌, List, [], ◌∷◌, sym, refl, inl, inr}
use Rattle.std.specs.List.{ContainsAt as Has}
use Rattle.std.proofs.ByRecursion.{all-has, All-weaker, all_has_itself, has_shuffled}
use Rattle.std.proofs.lemmas.Bool.{cond_both}
use Rattle.ranked.specs.Ranking.{ranked_insert, Absent}
use Rattle.ranked.proofs.Inserts.{all_insert, insert_keeps, insert_distinct, insert_sorted}
use Rattle.ranked.proofs.Lexes.{keys_connected, keys_transitive}
use Rattle.rules.specs.declared.order.Order.{Order}
use Rattle.rules.specs.Orders.{order_keys, order_ahead, order_number, left_of}
use Rattle.rules.proofs.Ready.{Ready}
use Rattle.rules.proofs.Accounts.{has_first, has_later, left_has}
use Rattle.rules.proofs.Reductions.{left_past, left_behind}

module _ (e : Order) (os : List Order) where
  pub has_inserted : (o : Order) → Has (ranked_insert order_ahead e os) o → (o ≡ e) ⊎ Has os o
  has_inserted o h =
      all-has (λ o. (o ≡ e) ⊎ Has os o) (ranked_insert order_ahead e os) o
      (all_insert order_ahead e (λ o. (o ≡ e) ⊎ Has os o) os (inl refl) (All-weaker (Has os) (λ o. (o ≡ e) ⊎ Has os o) (λ _ k. inr k) os (all_has_itself os)))
      h

  pub inserted_has_new : Has (ranked_insert order_ahead e os) e
  inserted_has_new = has_shuffled (e ∷ os) (ranked_insert order_ahead e os) e (insert_keeps order_ahead e os) (has_first e os)

  pub inserted_has_old : (o : Order) → Has os o → Has (ranked_insert order_ahead e os) o
  inserted_has_old o h = has_shuffled (e ∷ os) (ranked_insert order_ahead e os) o (insert_keeps order_ahead e os) (has_later e os o h)

  pub ready_inserted : Ready os → 1 ≤ e.quantity → 1 ≤ e.number → Absent order_number e.number os → Ready (ranked_insert order_ahead e os)
  ready_inserted ready some numbered fresh = record {
    sorted = insert_sorted order_ahead e (keys_transitive order_number order_keys) order_number (keys_connected order_number order_keys) os fresh ready.sorted;
    distinct = insert_distinct order_ahead e order_number os fresh ready.distinct;
    some = all_insert order_ahead e (λ o. 1 ≤ o.quantity) os some ready.some;
    numbered = all_insert order_ahead e (λ o. 1 ≤ o.number) os numbered ready.numbered;
  }

  pub left_inserted_same : Ready os → 1 ≤ e.quantity → 1 ≤ e.number → Absent order_number e.number os → left_of e.number (ranked_insert order_ahead e os) ≡ e.quantity
  left_inserted_same ready some numbered fresh = left_has (ranked_insert order_ahead e os) e (ready_inserted ready some numbered fresh) inserted_has_new

pub left_inserted_other : (e : Order) (os : List Order) (n : ℕ) → (n ≡ e.number → ⊥) → left_of n (ranked_insert order_ahead e os) ≡ left_of n os
left_inserted_other e [] n ne = left_past n e [] (λ same. ne (sym same))
left_inserted_other e (x ∷ os) n ne =
    cond_both (order_ahead x e) (x ∷ ranked_insert order_ahead e os) (e ∷ x ∷ os) (λ l. left_of n l ≡ left_of n (x ∷ os))
    (λ _. left_behind n x os (ranked_insert order_ahead e os) (left_inserted_other e os n ne))
    (λ _. left_past n e (x ∷ os) (λ same. ne (sym same)))
