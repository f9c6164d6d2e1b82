use Rattle.portal_tables_rows.proofs.HeldLemmas.{always_opened, open_own, open_wider}
use Rattle.portal_tables_rows.proofs.FromVersionLemmas.{apart_first, apart_second, apart_third, apart_fourth}
use Rattle.portal_tables_rows.proofs.FromVersionLemmas.{apart_fifth}
use Rattle.portal_tables_rows.proofs.from_versions.read_sessions_of.Goals as goal

pub returns-in-First : goal.returns-in-First
returns-in-First g c = rw c.in-First.is (open_own g.S.Store (λ t own. own)
    (open_wider g.S.Store (λ schema any. any) apart_first c.read_sessions_summed.ensures))

pub returns-in-Second : goal.returns-in-Second
returns-in-Second g c =
    rw c.in-Second.is (open_wider g.S.Store (λ schema any. any) apart_second c.read_sessions_apart.ensures)

pub returns-in-Third : goal.returns-in-Third
returns-in-Third g c =
    rw c.in-Third.is (open_wider g.S.Store (λ schema any. any) apart_third
    c.read_sessions_apart-in-Third.ensures)

pub returns-in-Fourth : goal.returns-in-Fourth
returns-in-Fourth g c =
    rw c.in-Fourth.is (open_wider g.S.Store (λ schema any. any) apart_fourth
    c.read_sessions_apart-in-Fourth.ensures)

pub returns-in-Fifth : goal.returns-in-Fifth
returns-in-Fifth g c =
    rw c.in-Fifth.is (open_wider g.S.Store (λ schema any. any) apart_fifth
    c.read_sessions_apart-in-Fifth.ensures)

pub returns-in-Sixth : goal.returns-in-Sixth
returns-in-Sixth g c = rw c.in-Sixth.is (open_own g.S.Store (λ t own. (own.sessions, own.totals))
    (always_opened g.S.Store (λ db t held. held) c.read_all_sessions.ensures))
