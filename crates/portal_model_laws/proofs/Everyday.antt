-- A history with every command is legal, by computing it.
use Rattle.portal_model_laws.proofs.Common.{arith, ◌≡◌, ℕ, ◌<◌, true, List, [], ◌∷◌, codes, refl, lit≤, lit<}
use Rattle.portal_model_laws.proofs.Common.{nat_lt, nat_tests, All, All-nil, All-cons, All-weaker, IsCode}
use Rattle.portal_model_laws.proofs.Common.{Plan, IsIdText, IsDevice, IsLegal}
use Rattle.portal_model.proofs.Devices.{six-octets}
use Rattle.portal_model.specs.TestVectors.{hour, gig, device1, device2, code1, code3, hour_redeemed}
use Rattle.portal_model.specs.TestVectors.{second_sold}
use Rattle.std.specs.List.{list_all}
use Rattle.std.proofs.lemmas.List.Sums.{AllPass-from_list_all}
use Rattle.portal_model_laws.specs.Everyday.{long_code, EveryCommandIsLegal}

device1-is : IsDevice device1
device1-is = six-octets device1 refl (lit< tt) (lit< tt) (lit< tt) (lit< tt) (lit< tt) (lit< tt)

device2-is : IsDevice device2
device2-is = six-octets device2 refl (lit< tt) (lit< tt) (lit< tt) (lit< tt) (lit< tt) (lit< tt)

-- values that are below 31, by a test of each
below_31 : (values : List ℕ) → list_all (λ v. nat_lt v 31) values ≡ true → All (λ v. v < 31) values
below_31 values e = All-weaker (λ v. nat_lt v 31 ≡ true) (λ v. v < 31) (λ v h. grind (arith, nat_tests))
    values (AllPass-from_list_all (λ v. nat_lt v 31) values e)

code1-is : IsCode code1
code1-is = record { whole = refl; below = below_31 code1 refl; sum = refl }

code3-is : IsCode code3
code3-is = record { whole = refl; below = below_31 code3 refl; sum = refl }

long_code-is : IsCode long_code
long_code-is = record { whole = refl; below = below_31 long_code refl; sum = refl }

one_code : (c : List ℕ) → IsCode c → All IsCode (c ∷ [])
one_code c is = All-cons IsCode c [] is (All-nil IsCode)

b1-is : IsIdText (codes "b1")
b1-is = record { least = lit≤ tt; most = lit≤ tt; characters = refl }

b2-is : IsIdText (codes "b2")
b2-is = record { least = lit≤ tt; most = lit≤ tt; characters = refl }

b3-is : IsIdText (codes "b3")
b3-is = record { least = lit≤ tt; most = lit≤ tt; characters = refl }

two_plans : All (λ (p : Plan). IsIdText p.id) (hour ∷ gig ∷ [])
two_plans = All-cons (λ (p : Plan). IsIdText p.id) hour (gig ∷ []) hour.id_text
    (All-cons (λ (p : Plan). IsIdText p.id) gig [] gig.id_text (All-nil (λ (p : Plan). IsIdText p.id)))

hour_legal : IsLegal hour_redeemed
hour_legal = (
  record {
    in_order = lit≤ tt;
    in_range = lit≤ tt;
    typed = (device1-is, code3-is);
    well_formed = tt;
    accepted = refl;
  },
  (
    record { in_order = lit≤ tt; in_range = lit≤ tt; typed = code3-is; well_formed = tt; accepted = refl },
    (
      record {
        in_order = lit≤ tt;
        in_range = lit≤ tt;
        typed = (b1-is, hour.id_text, one_code code3 code3-is);
        well_formed = (lit≤ tt, lit≤ tt);
        accepted = refl;
      },
      (
        record {
          in_order = lit≤ tt;
          in_range = lit≤ tt;
          typed = two_plans;
          well_formed = (lit≤ tt, lit≤ tt, refl);
          accepted = refl;
        },
        tt,
      ),
    ),
  ),
)

second_legal : IsLegal second_sold
second_legal = (
  record { in_order = lit≤ tt; in_range = lit≤ tt; typed = code1-is; well_formed = tt; accepted = refl },
  (
    record {
      in_order = lit≤ tt;
      in_range = lit≤ tt;
      typed = (b2-is, hour.id_text, one_code code1 code1-is);
      well_formed = (lit≤ tt, lit≤ tt);
      accepted = refl;
    },
    hour_legal,
  ),
)

pub every_command_legal : EveryCommandIsLegal
every_command_legal = (
  record { in_order = lit≤ tt; in_range = lit≤ tt; typed = tt; well_formed = tt; accepted = refl },
  (
    record {
      in_order = lit≤ tt;
      in_range = lit≤ tt;
      typed = long_code-is;
      well_formed = tt;
      accepted = refl;
    },
    (
      record { in_order = lit≤ tt; in_range = lit≤ tt; typed = tt; well_formed = lit≤ tt; accepted = refl },
      (
        record {
          in_order = lit≤ tt;
          in_range = lit≤ tt;
          typed = (device2-is, long_code-is);
          well_formed = tt;
          accepted = refl;
        },
        (
          record {
            in_order = lit≤ tt;
            in_range = lit≤ tt;
            typed = long_code-is;
            well_formed = tt;
            accepted = refl;
          },
          (
            record {
              in_order = lit≤ tt;
              in_range = lit≤ tt;
              typed = (b3-is, gig.id_text, one_code long_code long_code-is);
              well_formed = (lit≤ tt, lit≤ tt);
              accepted = refl;
            },
            (
              record {
                in_order = lit≤ tt;
                in_range = lit≤ tt;
                typed = (device1-is, code1-is);
                well_formed = tt;
                accepted = refl;
              },
              second_legal,
            ),
          ),
        ),
      ),
    ),
  ),
)
