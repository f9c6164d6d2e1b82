use Rattle.portal_http_routes.proofs.router.whole_router.Goals as goal

pub returns : goal.returns
returns c =
    rw (
      c.in_ok-add_route-19.ensures,
      c.in_ok-add_route-18.ensures,
      c.in_ok-add_route-17.ensures,
      c.in_ok-add_route-16.ensures,
      c.in_ok-add_route-15.ensures,
      c.in_ok-add_route-14.ensures,
      c.in_ok-add_route-13.ensures,
      c.in_ok-add_route-12.ensures,
      c.in_ok-add_route-11.ensures,
      c.in_ok-add_route-10.ensures,
      c.in_ok-add_route-9.ensures,
      c.in_ok-add_route-8.ensures,
      c.in_ok-add_route-7.ensures,
      c.in_ok-add_route-6.ensures,
      c.in_ok-add_route-5.ensures,
      c.in_ok-add_route-4.ensures,
      c.in_ok-add_route-3.ensures,
      c.in_ok-add_route-2.ensures,
      c.in_ok-add_route.ensures,
      c.new-router.ensures,
    )
