-- Creating a table or an index keeps the other tables.
use Rattle.portal_tables_rows.proofs.Common.{inl, inr, List, ◌∷◌, [], ◌++◌, sym, subst, Schema, Table}
use Rattle.portal_tables_rows.proofs.Common.{Database, Has, all_has, HasMade, KeepsOthers}

pub has_more : {X : Type 0} (xs ys : List X) (x : X) → Has xs x → Has (xs ++ ys) x
has_more [] ys x h = absurd h
has_more (y ∷ xs) ys x (inl e) = inl e
has_more (y ∷ xs) ys x (inr h) = inr (has_more xs ys x h)

pub others_made : (db : Database) (made : Table) (after : Database)
    → HasMade db made after → KeepsOthers db after
others_made db made after h x has other = (
  subst (λ (s : Schema). Has s.tables x) (sym h.is) (has_more db.schema.tables _ x has),
  all_has _ db.schema.tables x h.others has,
)
