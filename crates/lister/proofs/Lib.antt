mod FilterLaws
