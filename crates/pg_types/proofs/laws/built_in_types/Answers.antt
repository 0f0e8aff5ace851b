use Rattle.std.proofs.Common.{refl}
use Rattle.pg_types.proofs.laws.built_in_types.Goals as goal

pub returns-clause-arrays : goal.returns-clause-arrays
returns-clause-arrays c = (
  tt,
  (
    tt,
    (
      tt,
      (
        tt,
        (
          tt,
          (
            tt,
            (
              tt,
              (
                tt,
                (
                  tt,
                  (
                    tt,
                    (
                      tt,
                      (
                        tt,
                        (
                          tt,
                          (
                            (_, refl, refl, refl),
                            (
                              (_, refl, refl, refl),
                              (
                                (_, refl, refl, refl),
                                (
                                  (_, refl, refl, refl),
                                  (
                                    (_, refl, refl, refl),
                                    ((_, refl, refl, refl), ((_, refl, refl, refl), ((_, refl, refl, refl), tt))),
                                  ),
                                ),
                              ),
                            ),
                          ),
                        ),
                      ),
                    ),
                  ),
                ),
              ),
            ),
          ),
        ),
      ),
    ),
  ),
)
