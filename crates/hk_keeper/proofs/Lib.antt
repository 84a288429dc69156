mod Wishes
