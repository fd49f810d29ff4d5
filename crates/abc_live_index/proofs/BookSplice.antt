-- What a splice makes of the tunes of a book.
use Rattle.std.proofs.Common.{◌≡◌, ℕ, ◌+◌, ◌-◌, ◌≤◌, List, ◌++◌, length, take, drop, ap, ◌∙◌, append_assoc, length-append, arith}
use Rattle.std.proofs.lemmas.List.{drop_at, length-drop, length-take-le, take_at}
use Rattle.abc_lines.specs.GapList.{GapListView, replaced_run}
use Rattle.abc_lines.specs.ListSplice.{after_splice}

module _ {X : Type 0} (before after : GapListView X) (front following : ℕ) (new : List X) (order : front ≤ following) (inside : following ≤ length before.items)
    (is : after ≡ after_splice before front (following - front) new) where
  run : after.items ≡ replaced_run before.items front (following - front) new
  unfolding after_splice
  run = ap (λ g. g.items) is

  end : front + (following - front) ≡ following
  end = omega (arith, order)

  parts : after.items ≡ (take front before.items ++ new) ++ drop following before.items
  parts = run ∙ ap (λ n. (take front before.items ++ new) ++ drop n before.items) end

  first : length (take front before.items) ≡ front
  first = length-take-le front before.items (omega (arith, order, inside))

  pub items : after.items ≡ take front before.items ++ (new ++ drop following before.items)
  items = parts ∙ append_assoc (take front before.items) new (drop following before.items)

  upto : length (take front before.items ++ new) ≡ front + length new
  upto = length-append (take front before.items) new ∙ ap (λ n. n + length new) first

  pub count : length after.items ≡ front + length new + (length before.items - following)
  count = ap length parts ∙ length-append (take front before.items ++ new) (drop following before.items)
      ∙ ap (λ n. n + length (drop following before.items)) upto ∙ ap (λ n. front + length new + n) (length-drop following before.items)

  pub same_front : take front after.items ≡ take front before.items
  same_front = ap (take front) items ∙ take_at (take front before.items) (new ++ drop following before.items) front first

  pub same_after : drop (front + length new) after.items ≡ drop following before.items
  same_after = ap (drop (front + length new)) parts ∙ drop_at (take front before.items ++ new) (drop following before.items) (front + length new) upto
